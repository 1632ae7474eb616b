-- Any two outcomes that the contract of a public call of this crate allows coincide: each contract is an equation.
-- Assumes nothing.
use mathlib.Core.Path.{◌∙◌, sym}
use Rattle.words.proofs.Unique.{OneAnswer}
use Rattle.fields.proofs.Alphabet.number.Kinds as alphabet-number-kinds
use Rattle.fields.proofs.Alphabet.number.Reads as alphabet-number-reads
use Rattle.fields.proofs.Class.number.Kinds as class-number-kinds
use Rattle.fields.proofs.Class.number.Reads as class-number-reads
use Rattle.fields.proofs.Language.number.Kinds as language-number-kinds
use Rattle.fields.proofs.Language.number.Reads as language-number-reads
use Rattle.fields.proofs.Kind.number.Kinds as kind-number-kinds
use Rattle.fields.proofs.Kind.number.Reads as kind-number-reads
use Rattle.fields.proofs.Notice.number.Kinds as notice-number-kinds
use Rattle.fields.proofs.Notice.number.Reads as notice-number-reads
use Rattle.fields.proofs.flag.Kinds as flag-kinds
use Rattle.fields.proofs.flag.Reads as flag-reads
use Rattle.fields.proofs.notice_at.Kinds as notice-at-kinds
use Rattle.fields.proofs.notice_at.Reads as notice-at-reads
use Rattle.fields.proofs.Letters.named.Kinds as letters-named-kinds
use Rattle.fields.proofs.Letters.named.Reads as letters-named-reads
use Rattle.fields.proofs.Letters.given.Kinds as letters-given-kinds
use Rattle.fields.proofs.Letters.given.Reads as letters-given-reads

pub alphabet-number-unique : OneAnswer alphabet-number-kinds.ps alphabet-number-kinds.r alphabet-number-reads.Post
alphabet-number-unique κs a x y u v p q = p ∙ sym q

pub class-number-unique : OneAnswer class-number-kinds.ps class-number-kinds.r class-number-reads.Post
class-number-unique κs a x y u v p q = p ∙ sym q

pub language-number-unique : OneAnswer language-number-kinds.ps language-number-kinds.r language-number-reads.Post
language-number-unique κs a x y u v p q = p ∙ sym q

pub kind-number-unique : OneAnswer kind-number-kinds.ps kind-number-kinds.r kind-number-reads.Post
kind-number-unique κs a x y u v p q = p ∙ sym q

pub notice-number-unique : OneAnswer notice-number-kinds.ps notice-number-kinds.r notice-number-reads.Post
notice-number-unique κs a x y u v p q = p ∙ sym q

pub flag-unique : OneAnswer flag-kinds.ps flag-kinds.r flag-reads.Post
flag-unique κs a x y u v p q = p ∙ sym q

pub notice-at-unique : OneAnswer notice-at-kinds.ps notice-at-kinds.r notice-at-reads.Post
notice-at-unique κs a x y u v p q = p ∙ sym q

pub letters-named-unique : OneAnswer letters-named-kinds.ps letters-named-kinds.r letters-named-reads.Post
letters-named-unique κs a x y u v p q = p ∙ sym q

pub letters-given-unique : OneAnswer letters-given-kinds.ps letters-given-kinds.r letters-given-reads.Post
letters-given-unique κs a x y u v p q = p ∙ sym q
