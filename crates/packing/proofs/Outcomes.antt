-- Any two outcomes that the contract of a public call of this crate allows coincide: each contract is an equation for the answer and one for the buffer.
-- Assumes nothing.
use mathlib.Core.Path.{◌∙◌, sym}
use Rattle.words.proofs.Unique.{OneAnswer, OneBuffer}
use Rattle.packing.proofs.pack.Kinds as pack-kinds
use Rattle.packing.proofs.pack.Reads as pack
use Rattle.packing.proofs.unpack.Kinds as unpack-kinds
use Rattle.packing.proofs.unpack.Reads as unpack
use Rattle.packing.proofs.pack_text.Kinds as pack-text-kinds
use Rattle.packing.proofs.pack_text.Reads as pack-text
use Rattle.packing.proofs.pack_short.Kinds as pack-short-kinds
use Rattle.packing.proofs.pack_short.Reads as pack-short
use Rattle.packing.proofs.pack_page.Kinds as pack-page-kinds
use Rattle.packing.proofs.pack_page.Reads as pack-page
use Rattle.packing.proofs.unpack_all.Kinds as unpack-all-kinds
use Rattle.packing.proofs.unpack_all.Reads as unpack-all

pub pack-unique : OneAnswer pack-kinds.ps pack-kinds.r pack.Post
pack-unique κs a x y u v p q = p.0 ∙ sym q.0

pub pack-buffer-unique : OneBuffer pack-kinds.ps pack-kinds.r (λ κs u. u.1.1.0.now) pack.Post
pack-buffer-unique κs a x y u v p q = p.1 ∙ sym q.1

pub unpack-unique : OneAnswer unpack-kinds.ps unpack-kinds.r unpack.Post
unpack-unique κs a x y u v p q = p.0 ∙ sym q.0

pub unpack-buffer-unique : OneBuffer unpack-kinds.ps unpack-kinds.r (λ κs u. u.1.1.1.0.now) unpack.Post
unpack-buffer-unique κs a x y u v p q = p.1 ∙ sym q.1

pub pack-text-unique : OneAnswer pack-text-kinds.ps pack-text-kinds.r pack-text.Post
pack-text-unique κs a x y u v p q = p.0 ∙ sym q.0

pub pack-text-buffer-unique : OneBuffer pack-text-kinds.ps pack-text-kinds.r (λ κs u. u.1.1.1.0.now) pack-text.Post
pack-text-buffer-unique κs a x y u v p q = p.1 ∙ sym q.1

pub pack-short-unique : OneAnswer pack-short-kinds.ps pack-short-kinds.r pack-short.Post
pack-short-unique κs a x y u v p q = p.0 ∙ sym q.0

pub pack-short-buffer-unique : OneBuffer pack-short-kinds.ps pack-short-kinds.r (λ κs u. u.1.0.now) pack-short.Post
pack-short-buffer-unique κs a x y u v p q = p.1 ∙ sym q.1

pub unpack-all-unique : OneAnswer unpack-all-kinds.ps unpack-all-kinds.r unpack-all.Post
unpack-all-unique κs a x y u v p q = p.0 ∙ sym q.0

pub unpack-all-buffer-unique : OneBuffer unpack-all-kinds.ps unpack-all-kinds.r (λ κs u. u.1.1.1.0.now) unpack-all.Post
unpack-all-buffer-unique κs a x y u v p q = p.1 ∙ sym q.1

pub pack-page-unique : OneAnswer pack-page-kinds.ps pack-page-kinds.r pack-page.Post
pack-page-unique κs a x y u v p q = p.0 ∙ sym q.0

pub pack-page-buffer-unique : OneBuffer pack-page-kinds.ps pack-page-kinds.r (λ κs u. u.1.0.now) pack-page.Post
pack-page-buffer-unique κs a x y u v p q = p.1 ∙ sym q.1
