-- `print_bytes` lends a query its words: the parts of a file that is not refused lie within them; another's number is its refusal.
use native.Mathlib.Omega.{arith}
use mathlib.Core.Path.{sym, ◌∙◌, ap}
use lib.ListN.{take}
use Rattle.print_reading.specs.Files.{FileRead}
use Rattle.print_reading.proofs.LaidOut.{laid_out, words_read_lem}
use Rattle.print_writing.specs.Shown.{for_size}
use Rattle.print_files.proofs.print_bytes.Goals as goal

pub print_query-requires : goal.print_query-requires
print_query-requires g c = let b = c.args.bytes.now in
    let p = c.in-Ok.parts in
    let e = sym (ap (λ (r : FileRead). r.answer) c.read_file.ensures) ∙ c.in-Ok.is in
    let laid = laid_out b p e in record {
      laid = (laid.0, omega arith);
      bytes_value = (e, ap (λ (r : FileRead). take p.words r.words) c.read_file.ensures ∙ words_read_lem b p e _);
    }

pub print_refused-requires : goal.print_refused-requires
print_refused-requires g c =
    for_size _ (sym (ap (λ (r : FileRead). r.answer) c.read_file.ensures) ∙ c.in-Err.is)
