use Rattle.std.proofs.Common.{rules, arith, ◌<◌, ◌++◌, string_bytes}
use Rattle.std.proofs.lemmas.Str.Pattern.{split_once_first}
use Rattle.gmpl_member_names.specs.Names.{doubled}
use Rattle.gmpl_member_names.proofs.Doubled.{part_doubled, last_doubled}
use Rattle.gmpl_member_names.proofs.symbols.push_doubled.Goals as goal

pub loop-before-preserved : goal.loop-before-preserved
loop-before-preserved c =
    let small : 39 < 128 = omega arith in
    let rest = c.loop-before.rest.now in
    let parts = rw c.in-Some.is at (split_once_first 39 rest c.split_once.result c.split_once.ensures.cases small) in
    record {
      utf8 = search rules;
      made = part_doubled (string_bytes c.loop-before.made) (string_bytes c.push_str.new.self) (string_bytes c.push_str-in-Some.new.self) rest c.in-Some.before.now c.in-Some.after.now
          (string_bytes c.args.made.now ++ doubled c.args.text.now) c.loop-before.invariant.made parts.0 parts.1 parts.2 c.in_ok-push_str.ensures.bytes c.in_ok-push_str-2.ensures.bytes;
    }

pub returns : goal.returns
returns c =
    let small : 39 < 128 = omega arith in
    let rest = c.loop-before.rest.now in
    let none = rw c.in_default.is at (split_once_first 39 rest c.split_once.result c.split_once.ensures.cases small) in
    last_doubled c.push_str-2.result (string_bytes c.loop-before.made) (string_bytes c.push_str-2.new.self) rest
    (string_bytes c.args.made.now ++ doubled c.args.text.now) c.loop-before.invariant.made none c.push_str-2.ensures.bytes
