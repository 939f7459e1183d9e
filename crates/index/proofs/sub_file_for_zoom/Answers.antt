use Rattle.std.proofs.Common.{rules, ap, ◌∙◌}
use Rattle.std.proofs.lemmas.Iterator.{YieldsList-from_slice}
use Rattle.std.proofs.lemmas.Iterator.Adapters.{position_from-zero}
use Rattle.std.proofs.lemmas.Iterator.Search.{position_from_yields_List}
use Rattle.format.specs.Index.{holds_zoom}
use Rattle.types.specs.Types.{interval_of}
use Rattle.index.specs.Answers.{maybe}
use Rattle.index.proofs.SubFileLaws.{file-from}
use Rattle.index.proofs.sub_file_for_zoom.Goals as goal

pub returns : goal.returns
returns c =
    ap maybe (position_from_yields_List (λ z. holds_zoom (interval_of z) c.args.zoom) _ _ _ c.position.ensures.ran (YieldsList-from_slice _ cc) (λ x b q k. search rules) ∙ position_from-zero (λ z. holds_zoom (interval_of z) c.args.zoom) _)
    ∙ file-from _ c.args.zoom 0
