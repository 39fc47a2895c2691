use Rattle.std.proofs.Common.{inl, inr, ◌+◌, ◌*◌, ◌<◌, ◌≤◌, length, arith}
use Rattle.replay_sample.proofs.Numbers.{part_absent, part_swapped, part-past, part-inside}
use Rattle.replay_sample.proofs.part.Goals as goal

pub returns-then-read-at : goal.returns-then-read-at
returns-then-read-at c =
    let k = c.args.k in
    let s = c.args.case.now in
    record {
      part = elim c.then-read-at.either [
        | inl absent ↦ part_absent k s c.read.ensures.answer absent
        | inr other ↦ elim other [
          | inl swapped ↦ part_swapped k s c.read.ensures.answer c.read-from.ensures.answer c.read-to.ensures.answer swapped.0 swapped.1
          | inr past ↦ part-past k s c.read.ensures.answer c.read-from.ensures.answer c.read-to.ensures.answer past.0 past.1 past.2
        ]
      ];
    }

pub returns : goal.returns
returns c =
    let begin : 4 * c.args.k + 4 < c.read.result = omega arith in
    let order : c.read-from.result ≤ c.read-to.result = omega arith in
    let end : c.read-to.result ≤ length c.args.case.now = omega arith in
    record {
      part =
          part-inside c.args.k c.args.case.now c.read.ensures.answer c.read-from.ensures.answer c.read-to.ensures.answer begin order end;
    }
