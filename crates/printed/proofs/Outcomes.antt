-- Any two outcomes that the contract of a public call of this crate allows coincide: each contract is an equation for the answer and one for the buffer.
-- Of a sheet they are for the place, given as a list of one, and for the buffer.
-- Assumes nothing.
use mathlib.Core.Path.{◌∙◌, sym, ap}
use mathlib.Core.List.{[], ◌∷◌}
use Rattle.words.proofs.Unique.{OneAnswer, OneBuffer, OneShown}
use Rattle.printed.proofs.Sheet.new.Kinds as new-kinds
use Rattle.printed.proofs.Sheet.new.Reads as new
use Rattle.printed.proofs.Sheet.written.Kinds as written-kinds
use Rattle.printed.proofs.Sheet.written.Reads as written
use Rattle.printed.proofs.Sheet.put.Kinds as put-kinds
use Rattle.printed.proofs.Sheet.put.Reads as put
use Rattle.printed.proofs.Sheet.put_octets.Kinds as put-octets-kinds
use Rattle.printed.proofs.Sheet.put_octets.Reads as put-octets
use Rattle.printed.proofs.Sheet.put_units.Kinds as put-units-kinds
use Rattle.printed.proofs.Sheet.put_units.Reads as put-units
use Rattle.printed.proofs.magnitude.Kinds as magnitude-kinds
use Rattle.printed.proofs.magnitude.Reads as magnitude

pub magnitude-unique : OneAnswer magnitude-kinds.ps magnitude-kinds.r magnitude.Post
magnitude-unique κs a x y u v p q = p ∙ sym q

pub put-unique : OneBuffer put-kinds.ps put-kinds.r (λ κs u. u.0.now.end ∷ []) put.Post
put-unique κs a x y u v p q = ap (λ k. k ∷ []) (p.0 ∙ sym q.0)

pub put-buffer-unique : OneBuffer put-kinds.ps put-kinds.r (λ κs u. u.0.now.buffer.now) put.Post
put-buffer-unique κs a x y u v p q = p.1.0 ∙ sym q.1.0

pub put-octets-unique : OneBuffer put-octets-kinds.ps put-octets-kinds.r (λ κs u. u.0.now.end ∷ []) put-octets.Post
put-octets-unique κs a x y u v p q = ap (λ k. k ∷ []) (p.0 ∙ sym q.0)

pub put-octets-buffer-unique : OneBuffer put-octets-kinds.ps put-octets-kinds.r (λ κs u. u.0.now.buffer.now) put-octets.Post
put-octets-buffer-unique κs a x y u v p q = p.1.0 ∙ sym q.1.0

pub put-units-unique : OneBuffer put-units-kinds.ps put-units-kinds.r (λ κs u. u.0.now.end ∷ []) put-units.Post
put-units-unique κs a x y u v p q = ap (λ k. k ∷ []) (p.0 ∙ sym q.0)

pub put-units-buffer-unique : OneBuffer put-units-kinds.ps put-units-kinds.r (λ κs u. u.0.now.buffer.now) put-units.Post
put-units-buffer-unique κs a x y u v p q = p.1.0 ∙ sym q.1.0

pub new-unique : OneShown new-kinds.ps new-kinds.r (λ κs x. x.end ∷ []) new.Post
new-unique κs a x y u v p q = ap (λ k. k ∷ []) (p.0 ∙ sym q.0)

pub new-buffer-unique : OneShown new-kinds.ps new-kinds.r (λ κs x. x.buffer.now) new.Post
new-buffer-unique κs a x y u v p q = p.1.0 ∙ sym q.1.0

pub written-unique : OneShown written-kinds.ps written-kinds.r (λ κs x. x.now) written.Post
written-unique κs a x y u v p q = p ∙ sym q
