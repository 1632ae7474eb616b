-- Any two outcomes that the contract of a public call of this crate allows coincide: each contract is an equation for the answer.
-- Assumes nothing.
use mathlib.Core.Path.{◌∙◌, sym}
use Rattle.words.proofs.Unique.{OneAnswer}
use Rattle.groups.proofs.octets_for.Kinds as octets-for-kinds
use Rattle.groups.proofs.octets_for.Reads as octets-for
use Rattle.groups.proofs.squeeze.Kinds as squeeze-kinds
use Rattle.groups.proofs.squeeze.Reads as squeeze
use Rattle.groups.proofs.stretch.Kinds as stretch-kinds
use Rattle.groups.proofs.stretch.Reads as stretch
use Rattle.groups.proofs.left_over.Kinds as left-over-kinds
use Rattle.groups.proofs.left_over.Reads as left_over

pub octets-for-unique : OneAnswer octets-for-kinds.ps octets-for-kinds.r octets-for.Post
octets-for-unique κs a x y u v p q = p ∙ sym q

pub squeeze-unique : OneAnswer squeeze-kinds.ps squeeze-kinds.r squeeze.Post
squeeze-unique κs a x y u v p q = p ∙ sym q

pub stretch-unique : OneAnswer stretch-kinds.ps stretch-kinds.r stretch.Post
stretch-unique κs a x y u v p q = p ∙ sym q

pub left-over-unique : OneAnswer left-over-kinds.ps left-over-kinds.r left_over.Post
left-over-unique κs a x y u v p q = p ∙ sym q
