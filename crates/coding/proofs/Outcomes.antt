-- Any two outcomes that the contract of a public call of this crate allows coincide: each contract is an equation.
-- Assumes nothing.
use mathlib.Core.Path.{◌∙◌, sym}
use Rattle.words.proofs.Unique.{OneAnswer}
use Rattle.coding.proofs.Reading.of.Kinds as of-kinds
use Rattle.coding.proofs.Reading.of.Reads as of-reads
use Rattle.coding.proofs.Reading.plain.Kinds as plain-kinds
use Rattle.coding.proofs.Reading.plain.Reads as plain-reads
use Rattle.coding.proofs.Reading.with_alphabet.Kinds as with-alphabet-kinds
use Rattle.coding.proofs.Reading.with_alphabet.Reads as with-alphabet-reads
use Rattle.coding.proofs.plain_octet.Kinds as plain-octet-kinds
use Rattle.coding.proofs.plain_octet.Reads as plain-octet-reads
use Rattle.coding.proofs.Reading.write.Kinds as write-kinds
use Rattle.coding.proofs.Reading.write.Reads as write-reads
use Rattle.coding.proofs.Reading.holds.Kinds as holds-kinds
use Rattle.coding.proofs.Reading.holds.Reads as holds-reads
use Rattle.coding.proofs.read_octet.Kinds as read-octet-kinds
use Rattle.coding.proofs.read_octet.Reads as read-octet-reads
use Rattle.coding.proofs.Reading.with_letters.Kinds as with-letters-kinds
use Rattle.coding.proofs.Reading.with_letters.Reads as with-letters-reads
use Rattle.coding.proofs.Reading.text_octet.Kinds as text-octet-kinds
use Rattle.coding.proofs.Reading.text_octet.Reads as text-octet-reads
use Rattle.coding.proofs.Held.is_ucs2.Kinds as held-ucs2-kinds
use Rattle.coding.proofs.Held.is_ucs2.Reads as held-ucs2-reads
use Rattle.coding.proofs.Reading.is_ucs2.Kinds as is-ucs2-kinds
use Rattle.coding.proofs.Reading.is_ucs2.Reads as is-ucs2-reads
use Rattle.coding.proofs.Reading.lettered.Kinds as lettered-kinds
use Rattle.coding.proofs.Reading.lettered.Reads as lettered-reads
use Rattle.coding.proofs.lettered_octet.Kinds as lettered-octet-kinds
use Rattle.coding.proofs.lettered_octet.Reads as lettered-octet-reads

pub of-unique : OneAnswer of-kinds.ps of-kinds.r of-reads.Post
of-unique κs a x y u v p q = p ∙ sym q

pub plain-unique : OneAnswer plain-kinds.ps plain-kinds.r plain-reads.Post
plain-unique κs a x y u v p q = p ∙ sym q

pub with-alphabet-unique : OneAnswer with-alphabet-kinds.ps with-alphabet-kinds.r with-alphabet-reads.Post
with-alphabet-unique κs a x y u v p q = p ∙ sym q

pub plain-octet-unique : OneAnswer plain-octet-kinds.ps plain-octet-kinds.r plain-octet-reads.Post
plain-octet-unique κs a x y u v p q = p ∙ sym q

pub write-unique : OneAnswer write-kinds.ps write-kinds.r write-reads.Post
write-unique κs a x y u v p q = p ∙ sym q

pub holds-unique : OneAnswer holds-kinds.ps holds-kinds.r holds-reads.Post
holds-unique κs a x y u v p q = p ∙ sym q

pub read-octet-unique : OneAnswer read-octet-kinds.ps read-octet-kinds.r read-octet-reads.Post
read-octet-unique κs a x y u v p q = p ∙ sym q

pub with-letters-unique : OneAnswer with-letters-kinds.ps with-letters-kinds.r with-letters-reads.Post
with-letters-unique κs a x y u v p q = p ∙ sym q

pub text-octet-unique : OneAnswer text-octet-kinds.ps text-octet-kinds.r text-octet-reads.Post
text-octet-unique κs a x y u v p q = p ∙ sym q

pub lettered-unique : OneAnswer lettered-kinds.ps lettered-kinds.r lettered-reads.Post
lettered-unique κs a x y u v p q = p ∙ sym q

pub held-is-ucs2-unique : OneAnswer held-ucs2-kinds.ps held-ucs2-kinds.r held-ucs2-reads.Post
held-is-ucs2-unique κs a x y u v p q = p ∙ sym q

pub is-ucs2-unique : OneAnswer is-ucs2-kinds.ps is-ucs2-kinds.r is-ucs2-reads.Post
is-ucs2-unique κs a x y u v p q = p ∙ sym q

pub lettered-octet-unique : OneAnswer lettered-octet-kinds.ps lettered-octet-kinds.r lettered-octet-reads.Post
lettered-octet-unique κs a x y u v p q = p ∙ sym q
