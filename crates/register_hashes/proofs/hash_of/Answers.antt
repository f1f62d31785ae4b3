-- `hash_of` meets its contract: four bytes, low first.
use Rattle.std.proofs.Common.{◌/◌, ◌%◌, ap, ◌∙◌}
use Rattle.register_hashes.specs.Hashes.{mixed, hash_of}
use Rattle.register_hashes.proofs.hash_of.Goals as goal

pub returns : goal.returns
unfolding hash_of
returns c =
    let w = c.args.word in
    c.mix.ensures
    ∙ ap (λ h. mixed h (w / 16777216 % 256)) (c.mix-c.ensures
    ∙ ap (λ h. mixed h (w / 65536 % 256)) (c.mix-b.ensures
    ∙ ap (λ h. mixed h (w / 256 % 256)) c.mix-a.ensures))
