use Rattle.exports.specs.Calls.{NextOf}
use Rattle.exports.proofs.CallLaws.{crosses}
use Rattle.quick_next.specs.QuickNext.{way_step, point_step, end_step}
use Rattle.exports.proofs.try_quick.Goals as goal

pub returns-in-Some : goal.returns-in-Some
returns-in-Some c =
    crosses _ (NextOf c.args.map.now c.args.format.letters.now c.args.format.layout c.args.stream) (end_step c.in-Some.end c.args.stream) _ (c.in-Some.ensures _ _) (c.put_end_step.ensures _ _ _)

pub returns-in-Some-way_step : goal.returns-in-Some-way_step
returns-in-Some-way_step c =
    crosses _ (NextOf c.args.map.now c.args.format.letters.now c.args.format.layout c.args.stream) (way_step c.in-Some-way_step.way _) _ c.in-Some-way_step.ensures (c.put_way_step.ensures _ c.args.ids.now _)

pub returns-in-Some-point_step : goal.returns-in-Some-point_step
returns-in-Some-point_step c =
    crosses _ (NextOf c.args.map.now c.args.format.letters.now c.args.format.layout c.args.stream) (point_step c.in-Some-point_step.point _) _ c.in-Some-point_step.ensures (c.put_point_step.ensures _ c.args.ids.now)
