-- Demand 1 of the two steps of the writer: what settles no text is the first rule of 8, 1, 2, 3 that applies, and a refusal of the text leaves
-- the lent buffer as it came.
-- Assumes nothing.
--   settle-refuses         a reading settles no text for the refusal q where q is what the rules of 8, 1, 2, 3 give
--   settle-plain-refuses   plain text is refused 8 alone
--   write-settled-refuses  a refusal stores nothing, and what was not settled is handed on
--   code-message-refuses   one message is settled as none for the refusal q where its coding octet or, but on a page behind letters, its reading gives q
--   write-coded-refuses    a refusal stores nothing
use Rattle.words.proofs.Rules.{err-inside, ok-or-err, verdict_of}
use mathlib.Core.Path.{◌≡◌, refl, ap, ◌∙◌, sym}
use mathlib.Core.Bool.{Bool, true, false, cond}
use mathlib.Core.List.{List, [], ◌∷◌, ◌++◌}
use Prim.Native.Nat.{ℕ}
use native.Mathlib.Omega.{arith}
use lib.ListN.{length}
use Rattle.words.specs.declared.Service.{Service}
use Rattle.words.specs.declared.Refusal.{Refusal}
use Rattle.words.specs.declared.Refusal.TheVariants.{Unwritable}
use Rattle.words.specs.Sizes.{is_old_page}
use Rattle.lists.specs.Lists.{laid}
use Rattle.words.specs.Judging.{Rule, when, Verdict, refused, accepted, verdict, settle}
use Rattle.words.proofs.Judging.{verdict-refused-first, verdict-accepted-first, settle-told}
use Rattle.coding.specs.declared.Reading.{Reading}
use Rattle.coding.specs.declared.Held.{Held}
use Rattle.coding.specs.LanguageLetters.{is_lettered, coding_rules, coding_writes}
use Rattle.coding.specs.Holding.{holds_text, text_rules}
use Rattle.coding.specs.Readings.{plain_in}
use Rattle.coding.proofs.Refuses.{write-refuses-8}
use Rattle.coding.proofs.TextOctet.{letterless-coding}
use Rattle.demands.specs.declared.MessageWritten.{MessageWritten}
use Rattle.lettered.specs.LetteredPage.{lettered_writes}
use Rattle.lettered.proofs.Theorems.{write-refuses-kept}
use Rattle.demands.specs.MessageWritten.{text_octets, text_count, text_size_rules, text_writes, text_write_leaves, page_as}
use Rattle.demands.proofs.Steps.{coding-verdict, held-verdict}
use Rattle.writer.specs.declared.MessageCoding.{MessageCoding}
use Rattle.writer.specs.declared.MessageCoding.TheVariants as coding
use Rattle.writer.specs.Settled.{settled_by, settled_as, settled_writes, settled_leaves}
use Rattle.writer.specs.Coded.{text_by, lettered_by, coded_as, coded_writes, coded_leaves}
use Rattle.std.specs.Prelude.{Result, Ok, Err}
use Rattle.writer.specs.declared.TextCoding.{TextCoding}
use Rattle.demands.specs.Successes.{ok_message_written}

pub settle-refuses : (s : Service) (r : Reading) (q : Refusal) → settled_as s r ≡ Err q → verdict (coding_rules s r ++ text_rules s r) ≡ refused q
unfolding settled_as
settle-refuses s r q k = go (coding_writes s r) refl (holds_text s r) refl k
  where
    go : (w : Result ℕ Refusal) → w ≡ coding_writes s r → (h : Result Held Refusal) → h ≡ holds_text s r → settled_by s w h ≡ Err q → verdict (coding_rules s r ++ text_rules s r) ≡ refused q
    go (Ok o) e (Ok h) f k = absurd (ok-or-err k)
    go (Ok o) e (Err p) f k =
        verdict-accepted-first (coding_rules s r) (text_rules s r) (coding-verdict s r (Ok o) e) ∙ held-verdict s r (Err p) f ∙ ap refused (err-inside k)
    go (Err p) e h f k =
        verdict-refused-first (coding_rules s r) (text_rules s r) p (coding-verdict s r (Err p) e) ∙ ap refused (err-inside k)

pub settle-plain-refuses : (s : Service) (ucs2 : Bool) (q : Refusal) → settled_as s (plain_in ucs2) ≡ Err q → q ≡ Unwritable
unfolding settled_as holds_text text_rules verdict
settle-plain-refuses s ucs2 q k = go ucs2 (coding_writes s (plain_in ucs2)) refl k
  where
    go : (u : Bool) (w : Result ℕ Refusal) → w ≡ coding_writes s (plain_in u) → settled_by s w (holds_text s (plain_in u)) ≡ Err q → q ≡ Unwritable
    go true (Ok o) e k = let z : ◌≡◌ {A = ℕ} 0 1 = cc in absurd (omega arith)
    go false (Ok o) e k = let z : ◌≡◌ {A = ℕ} 0 1 = cc in absurd (omega arith)
    go u (Err p) e k = sym (err-inside k) ∙ write-refuses-8 s (plain_in u) p (sym (letterless-coding s (plain_in u) refl) ∙ sym e)

pub write-settled-refuses : (x : Result TextCoding Refusal) (us out : List ℕ) (q : Refusal) → settled_writes x us (length out) ≡ Err q → settled_leaves x us out ≡ out
unfolding text_writes text_write_leaves
write-settled-refuses (Ok c) us out q e =
    let octets : List ℕ = text_octets c.service c.ucs2 us in
    let rules : List Rule = when (is_old_page c.service) Unwritable ∷ text_size_rules c.service c.ucs2 us (length out) in
    let given : Result MessageWritten Refusal = ok_message_written (length octets) (text_count c.service c.ucs2 us) c.octet in
    let v : verdict rules ≡ refused q = settle-told verdict_of Err given (λ r. refl) refl (verdict rules) (Err q) (sym e) in
    ap (λ (w : Verdict). settle w (λ r. out) (laid octets out)) v
write-settled-refuses (Err p) us out q e = refl

-- what refuses a text by itself refuses the message
text-refused : (x : Result TextCoding Refusal) (q : Refusal) → text_by x ≡ Err q → x ≡ Err q
text-refused (Ok c) q e = absurd (ok-or-err e)
text-refused (Err p) q e = ap Err (err-inside e)

-- the rules of a message that come before its text
abbrev settled_rules : Service → Reading → List Rule
settled_rules s r = coding_rules s r ++ cond (is_lettered s r) [] (text_rules s r)

pub code-message-refuses : (s : Service) (r : Reading) (q : Refusal) → coded_as s r ≡ Err q → verdict (settled_rules s r) ≡ refused q
unfolding coded_as
code-message-refuses s r q k = go (is_lettered s r) k
  where
    octet : (w : Result ℕ Refusal) → w ≡ coding_writes s r → lettered_by r w ≡ Err q → verdict (coding_rules s r ++ []) ≡ refused q
    octet (Ok o) e f = absurd (ok-or-err f)
    octet (Err p) e f =
        verdict-refused-first (coding_rules s r) [] p (coding-verdict s r (Err p) e) ∙ ap refused (err-inside f)

    go : (b : Bool) → cond b (lettered_by r (coding_writes s r)) (text_by (settled_as s r)) ≡ Err q → verdict (coding_rules s r ++ cond b [] (text_rules s r)) ≡ refused q
    go true e = octet (coding_writes s r) refl e
    go false e = settle-refuses s r q (text-refused (settled_as s r) q e)

page-refuses : (octet : ℕ) (a : Result ℕ Refusal) (q : Refusal) → page_as octet a ≡ Err q → a ≡ Err q
page-refuses octet (Ok n) q e = let z : ◌≡◌ {A = ℕ} 0 1 = cc in absurd (omega arith)
page-refuses octet (Err p) q e = let f : p ≡ q = cc in ap Err f

pub write-coded-refuses : (x : Result MessageCoding Refusal) (us out : List ℕ) (q : Refusal) → coded_writes x us (length out) ≡ Err q → coded_leaves x us out ≡ out
write-coded-refuses (Ok (coding.Text c)) us out q e = write-settled-refuses (Ok c) us out q e
write-coded-refuses (Err p) us out q e = refl
write-coded-refuses (Ok (coding.Lettered c)) us out q e = write-refuses-kept c.ucs2 c.letters us out q (page-refuses c.octet (lettered_writes c.ucs2 c.letters us (length out)) q e)
