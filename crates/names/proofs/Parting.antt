-- The numbers of a reading that were joined are parted again: each stands in bits of its own.
-- Assumes nothing.
--   parted-joined   of numbers that fit their places
--   parted-own      of the numbers of any reading whose letters are octets
use mathlib.Core.Path.{◌≡◌, ap}
use Prim.Native.Nat.{ℕ, ◌+◌, ◌*◌, ◌/◌, ◌%◌, ◌≤◌, ◌<◌}
use native.Mathlib.Omega.{arith}
use lib.Dec.{lit≤}
use Rattle.fields.proofs.Numbered.{alphabet-named, class-named, language-named, flag-named, notice-below}
use Rattle.coding.specs.declared.Reading.{Reading}
use Rattle.names.specs.declared.ReadingNumbers.{ReadingNumbers}
use Rattle.names.specs.Names.{numbers_of}
use Rattle.names.specs.Joined.{joined_rest, joined_numbers, parted_numbers}
use Rattle.names.specs.Inner.{InOctets}

-- four octets in one number
record Four (k a b c d : ℕ) : Type 0 where
  pub one : k % 256 ≡ a
  pub two : k / 0x100 % 256 ≡ b
  pub three : k / 0x10000 % 256 ≡ c
  pub four : k / 0x1000000 % 256 ≡ d

four-octets : (k a b c d : ℕ) → a < 256 → b < 256 → c < 256 → d < 256 → k ≡ a + 0x100 * b + 0x10000 * c + 0x1000000 * d → Four k a b c d
four-octets k a b c d ha hb hc hd e = record { one = omega arith; two = omega arith; three = omega arith; four = omega arith }

-- four octets, then sixteen bits and two octets
record Seven (k a b c d n f s : ℕ) : Type 0 where
  pub front : Four k a b c d
  pub notice : k / 0x100000000 % 0x10000 ≡ n
  pub first : k / 0x1000000000000 % 256 ≡ f
  pub second : k / 0x100000000000000 % 256 ≡ s

seven-places : (k a b c d n f s : ℕ) → a < 256 → b < 256 → c < 256 → d < 256 → n < 0x10000 → f < 256 → s < 256
    → k ≡ a + 0x100 * b + 0x10000 * c + 0x1000000 * d + 0x100000000 * (n + 0x10000 * f + 0x1000000 * s) → Seven k a b c d n f s
seven-places k a b c d n f s ha hb hc hd hn hf hs e =
    record {
      front = record { one = omega arith; two = omega arith; three = omega arith; four = omega arith };
      notice = omega arith;
      first = omega arith;
      second = omega arith;
    }

-- eight octets as four and four
split : (a b c d e f g h : ℕ) → a < 256 → b < 256 → c < 256 → d < 256
    → ((a + 0x100 * b + 0x10000 * c + 0x1000000 * d + 0x100000000 * e + 0x10000000000 * f + 0x1000000000000 * g + 0x100000000000000 * h) % 0x100000000 ≡ a + 0x100 * b + 0x10000 * c + 0x1000000 * d)
    × ((a + 0x100 * b + 0x10000 * c + 0x1000000 * d + 0x100000000 * e + 0x10000000000 * f + 0x1000000000000 * g + 0x100000000000000 * h) / 0x100000000 ≡ e + 0x100 * f + 0x10000 * g + 0x1000000 * h)
split a b c d e f g h ha hb hc hd = (omega arith, omega arith)

pub parted-joined : (x : ReadingNumbers) → InOctets x → x.notice < 0x10000 → x.first < 256 → x.second < 256 → parted_numbers (joined_numbers x) ≡ x
unfolding joined_numbers parted_numbers
parted-joined x w n p q =
    let s = split x.alphabet x.compressed x.class x.language x.deletion x.prefix x.reserved x.header w.alphabet w.compressed w.class w.language in
    let f = four-octets _ x.alphabet x.compressed x.class x.language w.alphabet w.compressed w.class w.language s.0 in
    let b = seven-places _ x.deletion x.prefix x.reserved x.header x.notice x.first x.second w.deletion w.prefix w.reserved w.header n p q (ap (λ (k : ℕ). k + 0x100000000 * joined_rest x) s.1) in
    λ i.
    record {
      alphabet = f.one i;
      compressed = f.two i;
      class = f.three i;
      language = f.four i;
      deletion = b.front.one i;
      prefix = b.front.two i;
      reserved = b.front.three i;
      header = b.front.four i;
      notice = b.notice i;
      first = b.first i;
      second = b.second i;
    }

-- a number below a small bound is an octet
small : {i m n : ℕ} → i < m → m ≤ n → i < n
small {i} {m} {n} h l = omega arith

pub parted-own : (r : Reading) → r.letters.first < 256 → r.letters.second < 256 → parted_numbers (joined_numbers (numbers_of r)) ≡ numbers_of r
parted-own r p q =
    parted-joined (numbers_of r)
    (record {
      alphabet = small (alphabet-named r.alphabet).below (lit≤ tt);
      compressed = small (flag-named r.compressed).below (lit≤ tt);
      class = small (class-named r.class).below (lit≤ tt);
      language = small (language-named r.language).below (lit≤ tt);
      deletion = small (flag-named r.deletion).below (lit≤ tt);
      prefix = small (flag-named r.prefix).below (lit≤ tt);
      reserved = small (flag-named r.reserved).below (lit≤ tt);
      header = small (flag-named r.header).below (lit≤ tt);
    })
    (small (notice-below r.notice) (lit≤ tt)) p q
