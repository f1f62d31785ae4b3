-- `table_walk_keys::key_at` meets its contract: by the number, one of them.
use mathlib.Core.Path.{◌≡◌}
use native.Mathlib.Omega.{arith}
use Rattle.table_walk_keys.proofs.key_at.Goals as goal

pub returns-in-0 : goal.returns-in-0
returns-in-0 c = rw c.in-0.is

pub returns-in_default : goal.returns-in_default
returns-in_default c = let e : c.args.at ≡ 1 = omega (arith, c.requires, c.in_default.in_default-own.rest.1) in rw e
