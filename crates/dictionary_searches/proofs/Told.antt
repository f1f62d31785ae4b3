-- Whether a string comes before another, by where it stands against it.
use Prim.Native.Nat.{ℕ}
use mathlib.Core.Path.{◌≡◌, refl, sym, ◌∙◌, ap}
use mathlib.Core.Bool.{Bool, true, false, cond}
use mathlib.Core.List.{List}
use Rattle.std.specs.declared.cmp.Ordering.{Ordering}
use Rattle.std.specs.declared.cmp.Ordering.TheVariants.{Less, Equal, Greater}
use Rattle.std.specs.Ordering.{is_lt}
use Rattle.dictionaries.specs.Strings.{string_before}
use Rattle.dictionaries.specs.Lookups.{precedence}

told_by : (a b : Bool) → is_lt (cond a Less (cond b Greater Equal)) ≡ a
told_by true b = refl
told_by false true = refl
told_by false false = refl

pub precedence_told : (xs ys : List ℕ) → is_lt (precedence xs ys) ≡ string_before xs ys
unfolding precedence
precedence_told xs ys = told_by (string_before xs ys) (string_before ys xs)

pub told_before : (xs ys : List ℕ) {p : Ordering} → precedence xs ys ≡ p → is_lt p ≡ string_before xs ys
told_before xs ys e = sym (ap is_lt e) ∙ precedence_told xs ys

pub told_same : (xs ys us vs : List ℕ) → precedence xs ys ≡ precedence us vs → string_before us vs ≡ string_before xs ys
told_same xs ys us vs e = sym (told_before us vs (sym e)) ∙ precedence_told xs ys
