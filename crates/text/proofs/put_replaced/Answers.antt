use Rattle.std.proofs.Common.{refl, drop}
use Rattle.text.specs.Utf8.{sequence_bytes}
use Rattle.text.proofs.WalkLaws.{turn, walked}
use Rattle.text.proofs.WriteLaws.{writes, sequence-within, sequence-room, write_kept, write-on, write-more}
use Rattle.text.proofs.put_replaced.Goals as goal

pub copy-requires : goal.copy-requires
copy-requires c = search writes

pub returns-then-utf8_valid : goal.returns-then-utf8_valid
returns-then-utf8_valid c = search writes

pub put_sequence-to-requires : goal.put_sequence-to-requires
put_sequence-to-requires c =
    let g = turn c.loop-at.invariant.0 c.in-Some.ensures.steps in
    rw c.in-Some.ensures.steps.place
    (sequence-within _ _ _ g.is g.inside, sequence-room _ _ _ g.is g.inside _ _ _ _ c.loop-at.invariant.2 c.requires c.loop-at.invariant.1)

pub loop-at-preserved : goal.loop-at-preserved
loop-at-preserved c =
    let g = turn {old = c.loop-at.at-iterator} {p = c.in-Some.next} c.loop-at.invariant.0 c.in-Some.ensures.steps in
    let to = c.put_sequence-to.ensures.0 in
    let bytes = rw c.in-Some.ensures.steps.place at c.put_sequence-to.ensures.1 in
    rw g.next (
      g.text,
      write_kept c.loop-at.buffer c.put_sequence-to.new.buffer (sequence_bytes c.in-Some.next (drop c.loop-at.at-iterator.at c.args.text.now)) c.loop-at.to _ bytes c.loop-at.invariant.1,
      write-on _ _ _ _ _ _ g.is refl g.inside to _ c.loop-at.invariant.2,
      write-more _ _ _ _ _ _ g.is refl g.inside to _ _ _ bytes c.loop-at.invariant.3,
    )

pub returns : goal.returns
returns c = let e = walked c.args.text.now c.loop-at.at-iterator c.loop-at.invariant.0 c.in-None.ensures.steps in search writes
