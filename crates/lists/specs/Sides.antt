-- The sides of an order: where one thing stands against another. Assumes nothing: these are definitions.
use Rattle.std.specs.Prelude.{Bool, cond}
use Rattle.std.specs.declared.cmp.Ordering.{Ordering}
use Rattle.std.specs.declared.cmp.Ordering.TheVariants.{Less, Equal, Greater}

-- where x stands against y
abbrev pub side_by : {A : Type 0} → (A → A → Bool) → A → A → Ordering
side_by before x y = cond (before x y) Less (cond (before y x) Greater Equal)
