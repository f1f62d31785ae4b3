-- `wrapping_mul` meets its contract: the sums of the halves' products wrap as the product does.
use Rattle.std.proofs.Common.{◌+◌, ◌*◌, ◌%◌, ◌^◌, ap, ◌∙◌, arith}
use Rattle.register_hashes.proofs.Halves.{below, product}
use Rattle.register_hashes.proofs.wrapping_mul.Goals as goal

pub overflow_mul-high : goal.overflow_mul-high
overflow_mul-high c = record { fits = below 32 (omega arith) (omega arith) }

pub overflow_mul-low : goal.overflow_mul-low
overflow_mul-low c = record { fits = below 32 (omega arith) (omega arith) }

pub overflow_mul-low-2 : goal.overflow_mul-low-2
overflow_mul-low-2 c = record { fits = below 32 (omega arith) (omega arith) }

pub returns : goal.returns
returns c = let a = c.args.a in
    let b = c.args.b in record {
      wraps = c.wrapping_add_u64.ensures.value
          ∙ ap (λ x. (a % 4294967296 * (b % 4294967296) + x % 4294967296 * 4294967296) % 2 ^ 64) c.wrapping_add_u64-cross.ensures.value
          ∙ product a b;
    }
