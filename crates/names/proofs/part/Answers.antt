-- `part` meets its contract: each octet has a place of its own, and the notice two. Assumes nothing.
use Rattle.std.proofs.Common.{◌≡◌, ap, List, ℕ, ◌/◌, ◌%◌, get_or, arith}
use Rattle.names.specs.Joined.{parted_numbers}
use Rattle.names.proofs.part.Goals as goal

pub returns : goal.returns
unfolding parted_numbers
returns c =
    let f = c.to_le_bytes.ensures in
    let b = c.to_le_bytes-2.ensures in
    let notice : c.from_le_bytes.result ≡ c.args.joined.back / 0x100000000 % 0x10000 =
    omega (arith, c.from_le_bytes.ensures, ap (λ (l : List ℕ). get_or l 4 0) b, ap (λ (l : List ℕ). get_or l 5 0) b) in
    record {
      answer = λ i.
          record {
            alphabet = ap (λ (l : List ℕ). get_or l 0 0) f i;
            compressed = ap (λ (l : List ℕ). get_or l 1 0) f i;
            class = ap (λ (l : List ℕ). get_or l 2 0) f i;
            language = ap (λ (l : List ℕ). get_or l 3 0) f i;
            deletion = ap (λ (l : List ℕ). get_or l 0 0) b i;
            prefix = ap (λ (l : List ℕ). get_or l 1 0) b i;
            reserved = ap (λ (l : List ℕ). get_or l 2 0) b i;
            header = ap (λ (l : List ℕ). get_or l 3 0) b i;
            notice = notice i;
            first = ap (λ (l : List ℕ). get_or l 6 0) b i;
            second = ap (λ (l : List ℕ). get_or l 7 0) b i;
          };
    }
