-- Any two outcomes that the contract of a public call of this crate allows coincide: each contract is an equation.
-- Assumes nothing.
use mathlib.Core.Path.{◌∙◌, sym}
use Rattle.words.proofs.Unique.{OneAnswer}
use Rattle.names.proofs.reading.Kinds as reading-kinds
use Rattle.names.proofs.reading.Reads as reading
use Rattle.names.proofs.numbers.Kinds as numbers-kinds
use Rattle.names.proofs.numbers.Reads as numbers
use Rattle.names.proofs.join.Kinds as join-kinds
use Rattle.names.proofs.join.Reads as join
use Rattle.names.proofs.part.Kinds as part-kinds
use Rattle.names.proofs.part.Reads as part
use Rattle.names.proofs.lettered_numbers.Kinds as lettered-numbers-kinds
use Rattle.names.proofs.lettered_numbers.Reads as lettered-numbers
use Rattle.names.proofs.said.coded.Kinds as coded-kinds
use Rattle.names.proofs.said.coded.Reads as coded
use Rattle.names.proofs.said.hears.Kinds as hears-kinds
use Rattle.names.proofs.said.hears.Reads as hears

pub reading-unique : OneAnswer reading-kinds.ps reading-kinds.r reading.Post
reading-unique κs a x y u v p q = p ∙ sym q

pub numbers-unique : OneAnswer numbers-kinds.ps numbers-kinds.r numbers.Post
numbers-unique κs a x y u v p q = p ∙ sym q

pub join-unique : OneAnswer join-kinds.ps join-kinds.r join.Post
join-unique κs a x y u v p q = p ∙ sym q

pub part-unique : OneAnswer part-kinds.ps part-kinds.r part.Post
part-unique κs a x y u v p q = p ∙ sym q

pub lettered-numbers-unique : OneAnswer lettered-numbers-kinds.ps lettered-numbers-kinds.r lettered-numbers.Post
lettered-numbers-unique κs a x y u v p q = p ∙ sym q

pub coded-unique : OneAnswer coded-kinds.ps coded-kinds.r coded.Post
coded-unique κs a x y u v p q = p ∙ sym q

pub hears-unique : OneAnswer hears-kinds.ps hears-kinds.r hears.Post
hears-unique κs a x y u v p q = p ∙ sym q
