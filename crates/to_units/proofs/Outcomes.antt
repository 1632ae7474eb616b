-- Any two outcomes that the contract of a public call of this crate allows coincide: each contract is an equation for the answer and one for the buffer.
-- Assumes nothing.
use mathlib.Core.Path.{◌∙◌, sym}
use Rattle.words.proofs.Unique.{OneAnswer, OneBuffer}
use Rattle.to_units.proofs.kept.Kinds as kept-kinds
use Rattle.to_units.proofs.kept.Reads as kept
use Rattle.to_units.proofs.lay_units.Kinds as lay-units-kinds
use Rattle.to_units.proofs.lay_units.Reads as lay-units
use Rattle.to_units.proofs.octets_to_units.Kinds as to-units-kinds
use Rattle.to_units.proofs.octets_to_units.Reads as to-units
use Rattle.to_units.proofs.store.Kinds as store-kinds
use Rattle.to_units.proofs.store.Reads as store

pub octets-to-units-unique : OneAnswer to-units-kinds.ps to-units-kinds.r to-units.Post
octets-to-units-unique κs a x y u v p q = p.0 ∙ sym q.0

pub octets-to-units-buffer-unique : OneBuffer to-units-kinds.ps to-units-kinds.r (λ κs u. u.1.1.1.0.now) to-units.Post
octets-to-units-buffer-unique κs a x y u v p q = p.1 ∙ sym q.1

pub lay-units-unique : OneAnswer lay-units-kinds.ps lay-units-kinds.r lay-units.Post
lay-units-unique κs a x y u v p q = p.0 ∙ sym q.0

pub lay-units-buffer-unique : OneBuffer lay-units-kinds.ps lay-units-kinds.r (λ κs u. u.1.0.now) lay-units.Post
lay-units-buffer-unique κs a x y u v p q = p.1 ∙ sym q.1

pub kept-unique : OneAnswer kept-kinds.ps kept-kinds.r kept.Post
kept-unique κs a x y u v p q = p ∙ sym q

pub store-unique : OneAnswer store-kinds.ps store-kinds.r store.Post
store-unique κs a x y u v p q = p.0 ∙ sym q.0

pub store-buffer-unique : OneBuffer store-kinds.ps store-kinds.r (λ κs u. u.1.0.now) store.Post
store-buffer-unique κs a x y u v p q = p.1 ∙ sym q.1
