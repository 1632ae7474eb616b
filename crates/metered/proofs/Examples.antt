-- Keys with their answers, computed by the definitions: both sides of zero, of each service's size and of 65,535, and records that no keys make.
-- Assumes nothing.
use mathlib.Core.Bool.{Bool, true, ◌&&◌}
use mathlib.Core.List.{List, [], ◌∷◌}
use Prim.Native.Nat.{ℕ}
use lib.Dec.{T, eqb}
use lib.IntN.{ℤ, pos, negsuc}
use lib.Signed.{le_z}
use Rattle.lists.specs.Lists.{first_place}
use Rattle.words.specs.declared.Service.{Service}
use Rattle.words.specs.declared.Service.TheVariants.{ShortMessage, Broadcast, Ussd, OldPage}
use Rattle.words.specs.Judging.{verdict}
use Rattle.letters.specs.Tables.{main_table, extension, among}
use Rattle.letters.specs.Writing.{listed_in}
use Rattle.metered.specs.Metered.{Key, add, back, clear, remains, unit_septets, keyed, pressed_number}

-- on a record of so many septets the key is answered so, and so many are used then, which shows the number
abbrev says : Service → ℕ → Key → ℕ → ℕ → ℤ → Bool
says s used k number after shown =
    let now = keyed (record { service = s; used = used }) k in
    eqb (pressed_number now.answer) number && (eqb now.meter.used after && (le_z (remains now.meter) shown && le_z shown (remains now.meter)))

unfoldable pub all_hold : List Bool → Bool
all_hold [] = true
all_hold (b ∷ bs) = b && all_hold bs

unfoldable pub examples : List Bool
examples =
    -- a new meter, and one that is cleared
    says ShortMessage 0 clear 0 0 (pos 160)
    ∷ says Broadcast 93 clear 0 0 (pos 93)
    ∷ says Ussd 65535 clear 0 0 (pos 182)
    ∷ says OldPage 1 clear 0 0 (pos 93)
    -- a letter, and a letter of the extension
    ∷ says ShortMessage 0 (add 0x0041) 0 1 (pos 159)
    ∷ says ShortMessage 0 (add 0x20ac) 0 2 (pos 158)
    ∷ says ShortMessage 2 (back 0x20ac) 0 0 (pos 160)
    -- around zero
    ∷ says ShortMessage 159 (add 0x0041) 0 160 (pos 0)
    ∷ says ShortMessage 160 (add 0x0041) 0 161 (negsuc 0)
    ∷ says Broadcast 92 (add 0x005b) 0 94 (negsuc 0)
    ∷ says Ussd 183 (back 0x000d) 0 182 (pos 0)
    -- unlisted: the escape's own unit, the grave accent, a Chinese letter
    ∷ says ShortMessage 7 (add 0x001b) 6 7 (pos 153)
    ∷ says ShortMessage 7 (back 0x0060) 6 7 (pos 153)
    ∷ says ShortMessage 0 (back 0x4e2d) 6 0 (pos 160)
    -- below zero
    ∷ says ShortMessage 0 (back 0x0041) 5 0 (pos 160)
    ∷ says ShortMessage 1 (back 0x20ac) 5 1 (pos 159)
    -- above 65,535
    ∷ says ShortMessage 65534 (add 0x0041) 0 65535 (negsuc 65374)
    ∷ says ShortMessage 65534 (add 0x20ac) 5 65534 (negsuc 65373)
    ∷ says ShortMessage 65535 (add 0x0041) 5 65535 (negsuc 65374)
    ∷ says ShortMessage 65535 (add 0x4e2d) 6 65535 (negsuc 65374)
    -- records that no keys make
    ∷ says Ussd 65537 (back 0x20ac) 0 65535 (negsuc 65352)
    ∷ says Ussd 65537 (back 0x0041) 5 65537 (negsuc 65354)
    ∷ says Ussd 65536 (add 0x4e2d) 6 65536 (negsuc 65353)
    ∷ says Broadcast 4294967295 (add 0x0041) 5 4294967295 (negsuc 4294967201)
    ∷ says Broadcast 4294967295 clear 0 0 (pos 93)
    ∷ []

pub examples-hold : T (all_hold examples)
unfolding all_hold examples keyed remains unit_septets verdict listed_in main_table extension among first_place
examples-hold = tt
