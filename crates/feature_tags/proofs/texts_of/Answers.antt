use Rattle.feature_tags.proofs.TagLaws.{telling-none, telling-more, telling-done}
use Rattle.feature_tags.proofs.texts_of.Goals as goal

pub loop-i-init : goal.loop-i-init
loop-i-init c = telling-none c.args.starts.now c.args.parts c.args.map.now c.args.ids.now _ _ c.own_texts-texts.ensures c.min-i-end.ensures

pub loop-i-preserved : goal.loop-i-preserved
loop-i-preserved c =
    telling-more c.args.starts.now c.args.parts c.args.map.now c.args.ids.now _ _ _ _ c.loop-i.invariant _ _ _ c.loop-i-test.true c.tag_name-name.ensures c.tag_string.ensures

pub returns : goal.returns
returns c =
    telling-done c.args.starts.now c.args.parts c.args.map.now c.args.ids.now _ _ _ _ c.loop-i.invariant c.loop-i-test.false c.own_texts-texts.ensures
