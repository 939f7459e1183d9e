use Rattle.std.proofs.Common.{rules}
use lib.ListN.{length}
use borrow.Author.Tests.{not-true, not-false}
use Rattle.showing.proofs.ShowingLaws.{malformed, overlapping, gaping, too_short, passed}
use Rattle.showing.proofs.check_rules.Goals as goal

pub returns-then-not-all_well_formed-clause-result_value : goal.returns-then-not-all_well_formed-clause-result_value
returns-then-not-all_well_formed-clause-result_value c =
    malformed c.args.tags c.args.rules.now (length c.args.classes.now) _ c.all_well_formed.ensures (search (rules, not-true))

pub returns-then-overlap-cells-clause-result_value : goal.returns-then-overlap-cells-clause-result_value
returns-then-overlap-cells-clause-result_value c =
    overlapping c.args.tags c.args.rules.now (length c.args.classes.now) _ c.all_well_formed.ensures (search (rules, not-false)) _ c.all_faults-faults.ensures.overlap_value c.if-overlap-cells.true

pub returns-then-gap-cells-clause-result_value : goal.returns-then-gap-cells-clause-result_value
returns-then-gap-cells-clause-result_value c =
    gaping c.args.tags c.args.rules.now (length c.args.classes.now) _ c.all_well_formed.ensures (search (rules, not-false)) _ c.all_faults-faults.ensures.overlap_value c.if-overlap-cells.false _ c.all_faults-faults.ensures.gap_value c.if-gap-cells.true

pub returns-then-classes-cells-clause-result_value : goal.returns-then-classes-cells-clause-result_value
returns-then-classes-cells-clause-result_value c =
    too_short c.args.tags c.args.rules.now (length c.args.classes.now) _ c.all_well_formed.ensures (search (rules, not-false)) _ c.all_faults-faults.ensures.overlap_value c.if-overlap-cells.false _ c.all_faults-faults.ensures.gap_value c.if-gap-cells.false c.if-classes-cells.true

pub returns-clause-result_value : goal.returns-clause-result_value
returns-clause-result_value c =
    passed c.args.tags c.args.rules.now (length c.args.classes.now) _ c.all_well_formed.ensures (search (rules, not-false)) _ c.all_faults-faults.ensures.overlap_value c.if-overlap-cells.false _ c.all_faults-faults.ensures.gap_value c.if-gap-cells.false c.if-classes-cells.false
