use Rattle.std.proofs.Common.{rules, ltb}
use Rattle.std.proofs.lemmas.List.Sorted.{IsPartitionPoint-from_clause, IsPartitionedBy-ltb}
use Rattle.milp.specs.Form.{Entry}
use Rattle.dictionary.proofs.EntryLists.{rises, cut_before, cut_behind}
use Rattle.dictionary.proofs.entries.first_from.Goals as goal

pub returns-clause-before : goal.returns-clause-before
returns-clause-before c =
    let parted = IsPartitionedBy-ltb (λ (e : Entry). e.column) c.args.form.now c.args.column (λ i j d k l. rises 0 c.args.form.now i j d c.requires k l) in
    let point = IsPartitionPoint-from_clause (λ (e : Entry). ltb e.column c.args.column) c.args.form.now c.partition_point.result c.partition_point.ensures.partitioned parted (λ a r q k. search rules) in
    cut_before c.args.form.now c.partition_point.result c.args.column c.partition_point.ensures.bound point.0

pub returns-clause-behind : goal.returns-clause-behind
returns-clause-behind c =
    let parted = IsPartitionedBy-ltb (λ (e : Entry). e.column) c.args.form.now c.args.column (λ i j d k l. rises 0 c.args.form.now i j d c.requires k l) in
    let point = IsPartitionPoint-from_clause (λ (e : Entry). ltb e.column c.args.column) c.args.form.now c.partition_point.result c.partition_point.ensures.partitioned parted (λ a r q k. search rules) in
    cut_behind 0 c.args.form.now c.partition_point.result c.args.column c.requires point.1
