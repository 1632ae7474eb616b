-- `page_try` meets its contract: its tests are the definition's. Assumes nothing.
use Rattle.octets.specs.Inner.{headed_try, page_try}
use borrow.Author.Tests.{eq-eqb, ne_eqb, lt-ltb, le-ltb}
use Rattle.octets.proofs.page_try.Goals as goal

pub returns-then-language-lt15 : goal.returns-then-language-lt15
unfolding page_try
returns-then-language-lt15 c = simp (lt-ltb _ _ c.if-language-lt15.true)

pub returns-then-language-gt15 : goal.returns-then-language-gt15
unfolding page_try
returns-then-language-gt15 c = simp (le-ltb _ _ c.if-language-lt15.false, lt-ltb _ _ c.if-language-gt15.true)

pub returns-then-key-eq1 : goal.returns-then-key-eq1
unfolding page_try
returns-then-key-eq1 c = simp (le-ltb _ _ c.if-language-lt15.false, le-ltb _ _ c.if-language-gt15.false, eq-eqb _ _ c.if-key-eq1.true)

pub returns-then-alphabet-eq-WAP : goal.returns-then-alphabet-eq-WAP
unfolding page_try
returns-then-alphabet-eq-WAP c = simp (le-ltb _ _ c.if-language-lt15.false, le-ltb _ _ c.if-language-gt15.false, ne_eqb _ _ c.if-key-eq1.false, eq-eqb _ _ c.if-alphabet-eq-WAP.true)

pub returns-then-alphabet-eq-I1 : goal.returns-then-alphabet-eq-I1
unfolding page_try
returns-then-alphabet-eq-I1 c = simp (le-ltb _ _ c.if-language-lt15.false, le-ltb _ _ c.if-language-gt15.false, ne_eqb _ _ c.if-key-eq1.false, ne_eqb _ _ c.if-alphabet-eq-WAP.false, eq-eqb _ _ c.if-alphabet-eq-I1.true)

pub returns-then-general-eq0 : goal.returns-then-general-eq0
unfolding page_try headed_try
returns-then-general-eq0 c = simp (le-ltb _ _ c.if-language-lt15.false, le-ltb _ _ c.if-language-gt15.false, ne_eqb _ _ c.if-key-eq1.false, ne_eqb _ _ c.if-alphabet-eq-WAP.false, ne_eqb _ _ c.if-alphabet-eq-I1.false, ← c.general_try.ensures.0, eq-eqb _ _ c.if-general-eq0.true)

pub returns-else-general-eq0 : goal.returns-else-general-eq0
unfolding page_try headed_try
returns-else-general-eq0 c = simp (le-ltb _ _ c.if-language-lt15.false, le-ltb _ _ c.if-language-gt15.false, ne_eqb _ _ c.if-key-eq1.false, ne_eqb _ _ c.if-alphabet-eq-WAP.false, ne_eqb _ _ c.if-alphabet-eq-I1.false, ← c.general_try.ensures.0, ne_eqb _ _ c.if-general-eq0.false)
