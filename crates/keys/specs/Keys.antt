-- What a data coding octet says as one number, its key: the numbers of a reading's fields, each in a place of its own. There is room for
-- 8 alphabets, 8 classes, 32 languages and 64 notices.
-- Own rule: the keys are ours. Crate coding ties them to document 01's tables, octet by octet. Cited by short_key and page_key. Assumes nothing.
--   key_from a c l n z d p r h == the key of alphabet a, class c, language l, notice n and the marks compressed z, deletion d, prefix p, reserved r, header h
--   alphabet_digit k, class_digit k, language_digit k, notice_digit k, compressed_digit k, deletion_digit k, prefix_digit k, reserved_digit k, header_digit k
--                             == the field of the key k
--   short_key o                == the key of what octet o says in a short message
--   page_key o                 == the key of what it says in a broadcast page and in USSD
use Rattle.std.specs.Prelude.{ℕ, ◌+◌, ◌-◌, ◌*◌, ◌/◌, ◌%◌, cond, [], ◌∷◌, eqb, ltb, get_or}

abbrev pub key_from : ℕ → ℕ → ℕ → ℕ → ℕ → ℕ → ℕ → ℕ → ℕ → ℕ
key_from a c l n z d p r h = a + 8 * c + 64 * l + 2048 * n + 131072 * z + 262144 * d + 524288 * p + 1048576 * r + 2097152 * h

abbrev pub alphabet_digit : ℕ → ℕ
alphabet_digit k = k % 8

abbrev pub class_digit : ℕ → ℕ
class_digit k = k / 8 % 8

abbrev pub language_digit : ℕ → ℕ
language_digit k = k / 64 % 32

abbrev pub notice_digit : ℕ → ℕ
notice_digit k = k / 2048 % 64

abbrev pub compressed_digit : ℕ → ℕ
compressed_digit k = k / 131072 % 2

abbrev pub deletion_digit : ℕ → ℕ
deletion_digit k = k / 262144 % 2

abbrev pub prefix_digit : ℕ → ℕ
prefix_digit k = k / 524288 % 2

abbrev pub reserved_digit : ℕ → ℕ
reserved_digit k = k / 1048576 % 2

abbrev pub header_digit : ℕ → ℕ
header_digit k = k / 2097152 % 2

-- a reserved coding: language 15 is unspecified
abbrev pub reserved_key : ℕ
reserved_key = key_from 0 0 15 0 0 0 0 1 0

-- 00xx, and 01xx of a broadcast page and USSD; with the deletion mark 1, 01xx of a short message
unfoldable pub general_key : ℕ → ℕ → ℕ
general_key o deletion =
    cond (eqb (o / 4 % 4) 3) reserved_key
    (key_from (o / 4 % 4) (cond (eqb (o / 16 % 2) 1) (o % 4 + 1) 0) 15 0 (o / 32 % 2) deletion 0 0 0)

-- 1100 to 1110: a notice of the group 16 (discard) or 32 (store), its bit 3 and its kind
unfoldable pub notice_key : ℕ → ℕ → ℕ → ℕ
notice_key o group alphabet = cond (eqb (o / 4 % 2) 1) reserved_key (key_from alphabet 0 15 (group + 8 * (o / 8 % 2) + o % 4) 0 0 0 0 0)

-- 1111, with the class of that number
unfoldable pub last_key : ℕ → ℕ → ℕ
last_key o class = cond (eqb (o / 8 % 2) 1) reserved_key (key_from (o / 4 % 2) class 15 0 0 0 0 0 0)

unfoldable pub short_key : ℕ → ℕ
short_key o =
    cond (ltb o 0x40) (general_key o 0)
    (cond (ltb o 0x80) (general_key o 1)
    (cond (ltb o 0xc0) reserved_key
    (cond (ltb o 0xd0) (notice_key o 16 0)
    (cond (ltb o 0xe0) (notice_key o 32 0)
    (cond (ltb o 0xf0) (notice_key o 32 2)
    (last_key o (o % 4 + 1)))))))

-- the numbers of no class, user-defined 1 and 2, class 3, by bits 1..0
abbrev pub user_class : ℕ → ℕ
user_class o = get_or (0 ∷ 5 ∷ 6 ∷ 4 ∷ []) (o % 4) 0

-- 0000 to 0011: languages 0 to 15 and from 16 on, by bits 3..0; between them the prefix mark
unfoldable pub language_key : ℕ → ℕ
language_key o =
    cond (ltb o 0x10) (key_from 0 0 o 0 0 0 0 0 0)
    (cond (eqb o 0x10) (key_from 0 0 15 0 0 0 1 0 0)
    (cond (eqb o 0x11) (key_from 2 0 15 0 0 0 1 0 0)
    (cond (ltb o 0x20) reserved_key
    (cond (ltb o 0x25) (key_from 0 0 (o - 0x10) 0 0 0 0 0 0)
    reserved_key))))

-- 1001: the octet has bit 5 clear and bit 4 set, so it is as 01xx with a class, and the header mark
unfoldable pub header_key : ℕ → ℕ
header_key o = cond (eqb (general_key o 0) reserved_key) reserved_key (general_key o 0 + 2097152)

unfoldable pub page_key : ℕ → ℕ
page_key o =
    cond (ltb o 0x40) (language_key o)
    (cond (ltb o 0x80) (general_key o 0)
    (cond (ltb o 0x90) reserved_key
    (cond (ltb o 0xa0) (header_key o)
    (cond (ltb o 0xd0) reserved_key
    (cond (ltb o 0xe0) (key_from 4 0 15 0 0 0 0 0 0)
    (cond (ltb o 0xf0) (key_from 3 0 15 0 0 0 0 0 0)
    (last_key o (user_class o))))))))
