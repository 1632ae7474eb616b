-- A page of n pieces, all of them filling, with the text laid over its front: what closes it is dropped, and nothing else is lost.
-- Said once for the 93 septets and for the 41 units.
-- Assumes nothing.
use mathlib.Core.Path.{◌≡◌, sym, ap, ◌∙◌}
use mathlib.Core.List.{List, ◌++◌}
use Prim.Native.Nat.{ℕ, zero, suc, ◌-◌, ◌≤◌, ◌<◌}
use native.Mathlib.Nat.{suc-sub-suc, sub-zero}
use native.Mathlib.Omega.{arith}
use lib.Dec.{lit<}
use lib.ListN.{length, drop, replicate, length-replicate}
use Rattle.lists.specs.Lists.{laid}
use Rattle.lists.specs.Closing.{without_closing}
use Rattle.lists.proofs.Below.{Below, below-drop, below-append, below-replicate}
use Rattle.lists.proofs.Laid.{laid-length}
use Rattle.lists.proofs.Closing.{closing-run, closing-injective}
use Rattle.stream.specs.Pages.{page}
use Rattle.stream.specs.Ucs2.{unit_page}

-- filling with its front taken off is less filling
pub replicate-drop : (k n x : ℕ) → drop k (replicate n x) ≡ replicate (n - k) x
replicate-drop zero n x = ap (λ (m : ℕ). replicate m x) (sym (sub-zero n))
replicate-drop (suc k) zero x = let none : 0 ≡ 0 - suc k = omega arith in ap (λ (m : ℕ). replicate m x) none
replicate-drop (suc k) (suc n) x = replicate-drop k n x ∙ ap (λ (m : ℕ). replicate m x) (sym (suc-sub-suc n k))

module _ (n x : ℕ) where
  pub over-length : (s : List ℕ) → length s ≤ n → length (laid s (replicate n x)) ≡ n
  over-length s h = laid-length s (replicate n x) (omega (arith, length-replicate {A = ℕ} n x)) ∙ length-replicate n x

  pub over_below : (b : ℕ) → x < b → (s : List ℕ) → Below b s → Below b (laid s (replicate n x))
  unfolding laid
  over_below b p s h = below-append b s _ h (below-drop b (replicate n x) (below-replicate b n x p) (length s))

  -- without what closes it, the page is the text without what closes that
  pub over-closing : (s : List ℕ) → without_closing x (laid s (replicate n x)) ≡ without_closing x s
  unfolding laid
  over-closing s = ap (λ (l : List ℕ). without_closing x (s ++ l)) (replicate-drop (length s) n x) ∙ closing-run x (n - length s) s

  -- texts that are the same without what closes them have one page
  pub over-same : (s t : List ℕ) → length s ≤ n → length t ≤ n → without_closing x s ≡ without_closing x t → laid s (replicate n x) ≡ laid t (replicate n x)
  over-same s t hs ht e =
      closing-injective x (laid s (replicate n x)) (laid t (replicate n x)) (over-length s hs ∙ sym (over-length t ht))
      (over-closing s ∙ e ∙ sym (over-closing t))

pub page-length : (s : List ℕ) → length s ≤ 93 → length (page s) ≡ 93
unfolding page
page-length s h = over-length 93 _ s h

pub page-below : (s : List ℕ) → Below 128 s → Below 128 (page s)
unfolding page
page-below s h = over_below 93 _ 128 (lit< tt) s h

pub unit-page-length : (us : List ℕ) → length us ≤ 41 → length (unit_page us) ≡ 41
unfolding unit_page
unit-page-length us h = over-length 41 _ us h
