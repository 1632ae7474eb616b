-- The number of a value names it: each field's numbers are places of its list of values, and two values with the same number are the same.
-- Assumes nothing.
use mathlib.Core.Path.{◌≡◌, refl, ap, ◌∙◌, sym}
use mathlib.Core.Bool.{Bool, true, false}
use mathlib.Core.List.{List, [], ◌∷◌}
use Prim.Native.Nat.{ℕ, ◌<◌}
use native.Mathlib.Omega.{arith}
use lib.Dec.{lit<}
use lib.ListN.{length, get_or}
use Rattle.fields.specs.declared.Alphabet.{Alphabet}
use Rattle.fields.specs.declared.Alphabet.TheVariants.{SevenBit, EightBit, Ucs2, Wap, I1}
use Rattle.fields.specs.declared.Class.{Class}
use Rattle.fields.specs.declared.Class.TheVariants.{Unset, Class0, Class1, Class2, Class3, User1, User2}
use Rattle.fields.specs.declared.Language.{Language}
use Rattle.fields.specs.declared.Language.TheVariants.{German, English, Italian, French, Spanish, Dutch, Swedish, Danish, Portuguese, Finnish, Norwegian, Greek, Turkish, Hungarian, Polish, Unspecified, Czech, Hebrew, Arabic, Russian, Icelandic}
use Rattle.fields.specs.declared.Kind.{Kind}
use Rattle.fields.specs.declared.Kind.TheVariants.{Voicemail, Fax, Mail, Other}
use Rattle.fields.specs.declared.Notice.{Notice}
use Rattle.fields.specs.declared.Notice.TheVariants.{Nothing, Discard, Store}
use Rattle.fields.specs.Numbers.{notice_at}
use Rattle.fields.specs.Numbers.{alphabet_no, class_no, language_no, kind_no, notice_no, flag_no, alphabets, classes, languages, kinds}

-- a stands at its number in a list of values
pub record Named {A : Type 0} (number : A → ℕ) (values : List A) (first a : A) : Type 0 where
  pub back : get_or values (number a) first ≡ a
  pub below : number a < length values

injective : {A : Type 0} (number : A → ℕ) (values : List A) (first : A) → ((a : A) → Named number values first a) → (a b : A) → number a ≡ number b → a ≡ b
injective number values first named a b e = sym (named a).back ∙ ap (λ (k : ℕ). get_or values k first) e ∙ (named b).back

pub alphabet-named : (a : Alphabet) → Named alphabet_no alphabets SevenBit a
alphabet-named SevenBit = record { back = refl; below = lit< tt }
alphabet-named EightBit = record { back = refl; below = lit< tt }
alphabet-named Ucs2 = record { back = refl; below = lit< tt }
alphabet-named Wap = record { back = refl; below = lit< tt }
alphabet-named I1 = record { back = refl; below = lit< tt }

pub alphabet-injective : (a b : Alphabet) → alphabet_no a ≡ alphabet_no b → a ≡ b
alphabet-injective = injective alphabet_no alphabets SevenBit alphabet-named

pub class-named : (c : Class) → Named class_no classes Unset c
class-named Unset = record { back = refl; below = lit< tt }
class-named Class0 = record { back = refl; below = lit< tt }
class-named Class1 = record { back = refl; below = lit< tt }
class-named Class2 = record { back = refl; below = lit< tt }
class-named Class3 = record { back = refl; below = lit< tt }
class-named User1 = record { back = refl; below = lit< tt }
class-named User2 = record { back = refl; below = lit< tt }

pub class-injective : (a b : Class) → class_no a ≡ class_no b → a ≡ b
class-injective = injective class_no classes Unset class-named

pub language-named : (l : Language) → Named language_no languages German l
language-named German = record { back = refl; below = lit< tt }
language-named English = record { back = refl; below = lit< tt }
language-named Italian = record { back = refl; below = lit< tt }
language-named French = record { back = refl; below = lit< tt }
language-named Spanish = record { back = refl; below = lit< tt }
language-named Dutch = record { back = refl; below = lit< tt }
language-named Swedish = record { back = refl; below = lit< tt }
language-named Danish = record { back = refl; below = lit< tt }
language-named Portuguese = record { back = refl; below = lit< tt }
language-named Finnish = record { back = refl; below = lit< tt }
language-named Norwegian = record { back = refl; below = lit< tt }
language-named Greek = record { back = refl; below = lit< tt }
language-named Turkish = record { back = refl; below = lit< tt }
language-named Hungarian = record { back = refl; below = lit< tt }
language-named Polish = record { back = refl; below = lit< tt }
language-named Unspecified = record { back = refl; below = lit< tt }
language-named Czech = record { back = refl; below = lit< tt }
language-named Hebrew = record { back = refl; below = lit< tt }
language-named Arabic = record { back = refl; below = lit< tt }
language-named Russian = record { back = refl; below = lit< tt }
language-named Icelandic = record { back = refl; below = lit< tt }

pub language-injective : (a b : Language) → language_no a ≡ language_no b → a ≡ b
language-injective = injective language_no languages German language-named

pub kind-named : (k : Kind) → Named kind_no kinds Voicemail k
kind-named Voicemail = record { back = refl; below = lit< tt }
kind-named Fax = record { back = refl; below = lit< tt }
kind-named Mail = record { back = refl; below = lit< tt }
kind-named Other = record { back = refl; below = lit< tt }

pub kind-injective : (a b : Kind) → kind_no a ≡ kind_no b → a ≡ b
kind-injective = injective kind_no kinds Voicemail kind-named

pub flag-named : (b : Bool) → Named flag_no (false ∷ true ∷ []) false b
flag-named false = record { back = refl; below = lit< tt }
flag-named true = record { back = refl; below = lit< tt }

pub flag-injective : (a b : Bool) → flag_no a ≡ flag_no b → a ≡ b
flag-injective = injective flag_no (false ∷ true ∷ []) false flag-named

pub notice-below : (n : Notice) → notice_no n < 64
notice-below Nothing = lit< tt
notice-below (Discard b k) = omega (arith, (flag-named b).below, (kind-named k).below)
notice-below (Store b k) = omega (arith, (flag-named b).below, (kind-named k).below)

pub notice-back : (n : Notice) → notice_at (notice_no n) ≡ n
notice-back Nothing = refl
notice-back (Discard false Voicemail) = refl
notice-back (Discard false Fax) = refl
notice-back (Discard false Mail) = refl
notice-back (Discard false Other) = refl
notice-back (Discard true Voicemail) = refl
notice-back (Discard true Fax) = refl
notice-back (Discard true Mail) = refl
notice-back (Discard true Other) = refl
notice-back (Store false Voicemail) = refl
notice-back (Store false Fax) = refl
notice-back (Store false Mail) = refl
notice-back (Store false Other) = refl
notice-back (Store true Voicemail) = refl
notice-back (Store true Fax) = refl
notice-back (Store true Mail) = refl
notice-back (Store true Other) = refl

pub notice-injective : (a b : Notice) → notice_no a ≡ notice_no b → a ≡ b
notice-injective a b e = sym (notice-back a) ∙ ap notice_at e ∙ notice-back b
