-- A writer that has written nothing.
use Rattle.std.proofs.Common.{refl, rules}
use Rattle.csv_tables.specs.Writing.{IsWriting, written}
use Rattle.csv_tables.proofs.writing.writer_of.Goals as goal

pub returns-clause-writing : goal.returns-clause-writing
unfolding IsWriting
returns-clause-writing c =
    let fw = c.from_writer.ensures in
    (refl, fw.fields, fw.wrote, search rules)

pub returns-clause-empty : goal.returns-clause-empty
unfolding written
returns-clause-empty c =
    let fw = c.from_writer.ensures in
    rw (fw.wtr, fw.empty, c.new-2.ensures.items) refl
