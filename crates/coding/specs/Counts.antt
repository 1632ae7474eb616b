-- How many octets of each service are reserved, and how many readings can be written: counts that the tables are checked by.
-- Own rule: none. The theorem octet-counts says that they are right. Assumes nothing.
--   reserved_octets s   == the octets that are reserved under service s
--   writable_readings s == the readings that can be written under service s
--   counts              == a line for each service: reserved octets, writable readings
use Rattle.std.specs.Prelude.{ℕ, zero, suc, Bool, true, false, List, [], ◌∷◌, eqb, Result, Ok, Err}
use Rattle.words.specs.declared.Service.{Service}
use Rattle.words.specs.declared.Service.TheVariants.{ShortMessage, Broadcast, Ussd}
use Rattle.coding.specs.OctetRead.{read_under}
use Rattle.coding.specs.OctetWritten.{octet_writes}
use Rattle.words.specs.declared.Refusal.{Refusal}

-- how many of the n numbers from i on pass a test
unfoldable pub counted : (ℕ → Bool) → ℕ → ℕ → ℕ
counted f i zero = 0
counted f i (suc n) = elim (f i) [ true ↦ suc (counted f (suc i) n) | false ↦ counted f (suc i) n ]

abbrev pub reserved_octets : Service → ℕ
reserved_octets s = counted (λ (o : ℕ). (read_under s o).reserved) 0 256

-- writing gave octet o
abbrev pub gives : ℕ → Result ℕ Refusal → Bool
gives o (Ok k) = eqb k o
gives o (Err r) = false

-- a writable reading is written as one octet, so these octets are as many
abbrev pub writable_readings : Service → ℕ
writable_readings s = counted (λ (o : ℕ). gives o (octet_writes s (read_under s o))) 0 256

pub data Count : Type 0 where
  count : Service → ℕ → ℕ → Count

unfoldable pub counts : List Count
counts = count ShortMessage 128 84 ∷ count Broadcast 133 70 ∷ count Ussd 133 70 ∷ []

unfoldable pub right : List Count → Bool
right [] = true
right (count s reserved writable ∷ more) =
    elim (eqb (reserved_octets s) reserved) [ true ↦ elim (eqb (writable_readings s) writable) [ true ↦ right more | false ↦ false ] | false ↦ false ]
