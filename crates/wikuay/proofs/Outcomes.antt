-- Any two outcomes that the contract of an exported call allows coincide: each contract is an equation.
-- Assumes nothing.
use mathlib.Core.Path.{◌∙◌, sym}
use Rattle.words.proofs.Unique.{OneAnswer, OneBuffer}
use Rattle.wikuay.proofs.wikuay_version.Kinds as version-kinds
use Rattle.wikuay.proofs.wikuay_version.Reads as version
use Rattle.wikuay.proofs.wikuay_read_coding.Kinds as read-coding-kinds
use Rattle.wikuay.proofs.wikuay_read_coding.Reads as read-coding
use Rattle.wikuay.proofs.wikuay_write_coding.Kinds as write-coding-kinds
use Rattle.wikuay.proofs.wikuay_write_coding.Reads as write-coding
use Rattle.wikuay.proofs.wikuay_holds_text.Kinds as holds-text-kinds
use Rattle.wikuay.proofs.wikuay_holds_text.Reads as Holds-text
use Rattle.wikuay.proofs.wikuay_pack.Kinds as pack-kinds
use Rattle.wikuay.proofs.wikuay_pack.Reads as pack
use Rattle.wikuay.proofs.wikuay_unpack.Kinds as unpack-kinds
use Rattle.wikuay.proofs.wikuay_unpack.Reads as unpack
use Rattle.wikuay.proofs.wikuay_text_to_septets.Kinds as text-to-septets-kinds
use Rattle.wikuay.proofs.wikuay_text_to_septets.Reads as text-to-septets
use Rattle.wikuay.proofs.wikuay_septets_to_text.Kinds as septets-to-text-kinds
use Rattle.wikuay.proofs.wikuay_septets_to_text.Reads as septets-to-text
use Rattle.wikuay.proofs.wikuay_read_message.Kinds as read-message-kinds
use Rattle.wikuay.proofs.wikuay_read_message.Reads as read-message
use Rattle.wikuay.proofs.wikuay_write_message.Kinds as write-message-kinds
use Rattle.wikuay.proofs.wikuay_write_message.Reads as write-message
use Rattle.wikuay.proofs.broadcasts.wikuay_read_header.Kinds as read-header-kinds
use Rattle.wikuay.proofs.broadcasts.wikuay_read_header.Reads as read-header
use Rattle.wikuay.proofs.broadcasts.wikuay_count_pages.Kinds as count-pages-kinds
use Rattle.wikuay.proofs.broadcasts.wikuay_count_pages.Reads as count-pages
use Rattle.wikuay.proofs.broadcasts.wikuay_build_page.Kinds as build-page-kinds
use Rattle.wikuay.proofs.broadcasts.wikuay_build_page.Reads as build-page
use Rattle.wikuay.proofs.broadcasts.wikuay_write_pages.Kinds as write-pages-kinds
use Rattle.wikuay.proofs.broadcasts.wikuay_write_pages.Reads as write-pages
use Rattle.wikuay.proofs.broadcasts.wikuay_join_pages.Kinds as join-pages-kinds
use Rattle.wikuay.proofs.broadcasts.wikuay_join_pages.Reads as join-pages
use Rattle.wikuay.proofs.long_messages.wikuay_read_part.Kinds as read-part-kinds
use Rattle.wikuay.proofs.long_messages.wikuay_read_part.Reads as read-part
use Rattle.wikuay.proofs.long_messages.wikuay_count_parts.Kinds as count-parts-kinds
use Rattle.wikuay.proofs.long_messages.wikuay_count_parts.Reads as count-parts
use Rattle.wikuay.proofs.long_messages.wikuay_write_part.Kinds as write-part-kinds
use Rattle.wikuay.proofs.long_messages.wikuay_write_part.Reads as write-part
use Rattle.wikuay.proofs.long_messages.wikuay_write_parts.Kinds as write-parts-kinds
use Rattle.wikuay.proofs.long_messages.wikuay_write_parts.Reads as write-parts
use Rattle.wikuay.proofs.long_messages.wikuay_join_parts.Kinds as join-parts-kinds
use Rattle.wikuay.proofs.long_messages.wikuay_join_parts.Reads as join-parts
use Rattle.wikuay.proofs.meters.wikuay_new_meter.Kinds as new-meter-kinds
use Rattle.wikuay.proofs.meters.wikuay_new_meter.Reads as new-meter
use Rattle.wikuay.proofs.meters.wikuay_room_left.Kinds as room-left-kinds
use Rattle.wikuay.proofs.meters.wikuay_room_left.Reads as room-left
use Rattle.wikuay.proofs.meters.wikuay_unit_added.Kinds as unit-added-kinds
use Rattle.wikuay.proofs.meters.wikuay_unit_added.Reads as unit-added
use Rattle.wikuay.proofs.meters.wikuay_unit_taken_back.Kinds as unit-taken-back-kinds
use Rattle.wikuay.proofs.meters.wikuay_unit_taken_back.Reads as unit-taken-back
use Rattle.wikuay.proofs.meters.wikuay_meter_cleared.Kinds as meter-cleared-kinds
use Rattle.wikuay.proofs.meters.wikuay_meter_cleared.Reads as meter-cleared

pub wikuay-version-unique : OneAnswer version-kinds.ps version-kinds.r version.Post
wikuay-version-unique κs a x y u v p q = p ∙ sym q

pub wikuay-read-coding-unique : OneAnswer read-coding-kinds.ps read-coding-kinds.r read-coding.Post
wikuay-read-coding-unique κs a x y u v p q = p ∙ sym q

pub wikuay-write-coding-unique : OneAnswer write-coding-kinds.ps write-coding-kinds.r write-coding.Post
wikuay-write-coding-unique κs a x y u v p q = p ∙ sym q

pub wikuay-holds-text-unique : OneAnswer holds-text-kinds.ps holds-text-kinds.r Holds-text.Post
wikuay-holds-text-unique κs a x y u v p q = p ∙ sym q

pub wikuay-pack-unique : OneAnswer pack-kinds.ps pack-kinds.r pack.Post
wikuay-pack-unique κs a x y u v p q = p.0 ∙ sym q.0

pub wikuay-pack-buffer-unique : OneBuffer pack-kinds.ps pack-kinds.r (λ κs u. u.1.1.0.now) pack.Post
wikuay-pack-buffer-unique κs a x y u v p q = p.1 ∙ sym q.1

pub wikuay-unpack-unique : OneAnswer unpack-kinds.ps unpack-kinds.r unpack.Post
wikuay-unpack-unique κs a x y u v p q = p.0 ∙ sym q.0

pub wikuay-unpack-buffer-unique : OneBuffer unpack-kinds.ps unpack-kinds.r (λ κs u. u.1.1.1.0.now) unpack.Post
wikuay-unpack-buffer-unique κs a x y u v p q = p.1 ∙ sym q.1

pub wikuay-text-to-septets-unique : OneAnswer text-to-septets-kinds.ps text-to-septets-kinds.r text-to-septets.Post
wikuay-text-to-septets-unique κs a x y u v p q = p.0 ∙ sym q.0

pub wikuay-text-to-septets-buffer-unique : OneBuffer text-to-septets-kinds.ps text-to-septets-kinds.r (λ κs u. u.1.0.now) text-to-septets.Post
wikuay-text-to-septets-buffer-unique κs a x y u v p q = p.1 ∙ sym q.1

pub wikuay-septets-to-text-unique : OneAnswer septets-to-text-kinds.ps septets-to-text-kinds.r septets-to-text.Post
wikuay-septets-to-text-unique κs a x y u v p q = p.0 ∙ sym q.0

pub wikuay-septets-to-text-buffer-unique : OneBuffer septets-to-text-kinds.ps septets-to-text-kinds.r (λ κs u. u.1.0.now) septets-to-text.Post
wikuay-septets-to-text-buffer-unique κs a x y u v p q = p.1 ∙ sym q.1

pub wikuay-read-message-unique : OneAnswer read-message-kinds.ps read-message-kinds.r read-message.Post
wikuay-read-message-unique κs a x y u v p q = p.0 ∙ sym q.0

pub wikuay-read-message-buffer-unique : OneBuffer read-message-kinds.ps read-message-kinds.r (λ κs u. u.1.1.1.1.0.now) read-message.Post
wikuay-read-message-buffer-unique κs a x y u v p q = p.1 ∙ sym q.1

pub wikuay-write-message-unique : OneAnswer write-message-kinds.ps write-message-kinds.r write-message.Post
wikuay-write-message-unique κs a x y u v p q = p.0 ∙ sym q.0

pub wikuay-write-message-buffer-unique : OneBuffer write-message-kinds.ps write-message-kinds.r (λ κs u. u.1.1.1.0.now) write-message.Post
wikuay-write-message-buffer-unique κs a x y u v p q = p.1 ∙ sym q.1

pub wikuay-read-header-unique : OneAnswer read-header-kinds.ps read-header-kinds.r read-header.Post
wikuay-read-header-unique κs a x y u v p q = p ∙ sym q

pub wikuay-count-pages-unique : OneAnswer count-pages-kinds.ps count-pages-kinds.r count-pages.Post
wikuay-count-pages-unique κs a x y u v p q = p ∙ sym q

pub wikuay-build-page-unique : OneAnswer build-page-kinds.ps build-page-kinds.r build-page.Post
wikuay-build-page-unique κs a x y u v p q = p ∙ sym q

pub wikuay-write-pages-unique : OneAnswer write-pages-kinds.ps write-pages-kinds.r write-pages.Post
wikuay-write-pages-unique κs a x y u v p q = p.0 ∙ sym q.0

pub wikuay-write-pages-buffer-unique : OneBuffer write-pages-kinds.ps write-pages-kinds.r (λ κs u. u.1.1.1.1.0.now) write-pages.Post
wikuay-write-pages-buffer-unique κs a x y u v p q = p.1 ∙ sym q.1

pub wikuay-join-pages-unique : OneAnswer join-pages-kinds.ps join-pages-kinds.r join-pages.Post
wikuay-join-pages-unique κs a x y u v p q = p.0 ∙ sym q.0

pub wikuay-join-pages-buffer-unique : OneBuffer join-pages-kinds.ps join-pages-kinds.r (λ κs u. u.1.0.now) join-pages.Post
wikuay-join-pages-buffer-unique κs a x y u v p q = p.1 ∙ sym q.1

pub wikuay-read-part-unique : OneAnswer read-part-kinds.ps read-part-kinds.r read-part.Post
wikuay-read-part-unique κs a x y u v p q = p.0 ∙ sym q.0

pub wikuay-read-part-buffer-unique : OneBuffer read-part-kinds.ps read-part-kinds.r (λ κs u. u.1.1.1.1.0.now) read-part.Post
wikuay-read-part-buffer-unique κs a x y u v p q = p.1 ∙ sym q.1

pub wikuay-count-parts-unique : OneAnswer count-parts-kinds.ps count-parts-kinds.r count-parts.Post
wikuay-count-parts-unique κs a x y u v p q = p ∙ sym q

pub wikuay-write-part-unique : OneAnswer write-part-kinds.ps write-part-kinds.r write-part.Post
wikuay-write-part-unique κs a x y u v p q = p.0 ∙ sym q.0

pub wikuay-write-part-buffer-unique : OneBuffer write-part-kinds.ps write-part-kinds.r (λ κs u. u.1.1.1.1.0.now) write-part.Post
wikuay-write-part-buffer-unique κs a x y u v p q = p.1 ∙ sym q.1

pub wikuay-write-parts-unique : OneAnswer write-parts-kinds.ps write-parts-kinds.r write-parts.Post
wikuay-write-parts-unique κs a x y u v p q = p.0 ∙ sym q.0

pub wikuay-write-parts-buffer-unique : OneBuffer write-parts-kinds.ps write-parts-kinds.r (λ κs u. u.1.1.1.0.now) write-parts.Post
wikuay-write-parts-buffer-unique κs a x y u v p q = p.1.0 ∙ sym q.1.0

pub wikuay-write-parts-sizes-unique : OneBuffer write-parts-kinds.ps write-parts-kinds.r (λ κs u. u.1.1.1.1.0.now) write-parts.Post
wikuay-write-parts-sizes-unique κs a x y u v p q = p.1.1 ∙ sym q.1.1

pub wikuay-join-parts-unique : OneAnswer join-parts-kinds.ps join-parts-kinds.r join-parts.Post
wikuay-join-parts-unique κs a x y u v p q = p.0 ∙ sym q.0

pub wikuay-join-parts-buffer-unique : OneBuffer join-parts-kinds.ps join-parts-kinds.r (λ κs u. u.1.1.1.0.now) join-parts.Post
wikuay-join-parts-buffer-unique κs a x y u v p q = p.1 ∙ sym q.1

pub wikuay-new-meter-unique : OneAnswer new-meter-kinds.ps new-meter-kinds.r new-meter.Post
wikuay-new-meter-unique κs a x y u v p q = p ∙ sym q

pub wikuay-room-left-unique : OneAnswer room-left-kinds.ps room-left-kinds.r room-left.Post
wikuay-room-left-unique κs a x y u v p q = p ∙ sym q

pub wikuay-unit-added-unique : OneAnswer unit-added-kinds.ps unit-added-kinds.r unit-added.Post
wikuay-unit-added-unique κs a x y u v p q = p ∙ sym q

pub wikuay-unit-taken-back-unique : OneAnswer unit-taken-back-kinds.ps unit-taken-back-kinds.r unit-taken-back.Post
wikuay-unit-taken-back-unique κs a x y u v p q = p ∙ sym q

pub wikuay-meter-cleared-unique : OneAnswer meter-cleared-kinds.ps meter-cleared-kinds.r meter-cleared.Post
wikuay-meter-cleared-unique κs a x y u v p q = p ∙ sym q
