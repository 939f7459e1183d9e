use Rattle.std.proofs.Common.{rules, Err}
use Rattle.error.specs.Refusals.{in_index}
use Rattle.arithmetic.proofs.CutLaws.{cut_fits}
use Rattle.byte_source.proofs.CutOffLaws.{Mapped, mapped-index}
use Rattle.format.specs.Index.{entry}
use Rattle.index.proofs.AnswerLaws.{reads}
use Rattle.index.proofs.EntryLaws.{entry-held}
use Rattle.index.proofs.read_entry.Goals as goal

pub returns-in_err-n : goal.returns-in_err-n
unfolding entry
returns-in_err-n c =
    let h : Mapped (in_index c.args.at) c.read_u40_be.result (Err c.in_err-n.field-0.0) = search (rules, c.in_err-n.ensures.cases) in
    let r = mapped-index (λ a. a) c.args.at _ _ _ h c.read_u40_be.ensures in
    search (reads, cut_fits)

pub returns : goal.returns
unfolding entry
returns c =
    let r = mapped-index (λ a. a) c.args.at _ _ _ c.in_ok-n.ensures.cases c.read_u40_be.ensures in
    search (reads, cut_fits, entry-held)
