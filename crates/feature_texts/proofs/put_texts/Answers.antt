use Rattle.feature_texts.proofs.PutLaws.{name-room, house-room, reference-room, texts-put}
use Rattle.feature_texts.proofs.put_texts.Goals as goal

pub put-at-requires : goal.put-at-requires
put-at-requires c =
    name-room
    c.args.starts.now c.args.parts c.args.map.now c.args.ids.now _ c.requires
    _ _ _ c.put_ids-at.ensures.0 c.put_ids-at.ensures.1 c.optional_bytes.ensures

pub put-at-requires-2 : goal.put-at-requires-2
put-at-requires-2 c =
    house-room
    c.args.starts.now c.args.parts c.args.map.now c.args.ids.now _ c.requires
    _ _ _ c.put_ids-at.ensures.0 c.put_ids-at.ensures.1 c.optional_bytes.ensures
    _ _ _ c.put-at.ensures.0 c.put-at.ensures.1 c.optional_bytes-2.ensures

pub put-requires : goal.put-requires
put-requires c =
    reference-room
    c.args.starts.now c.args.parts c.args.map.now c.args.ids.now _ c.requires
    _ _ _ c.put_ids-at.ensures.0 c.put_ids-at.ensures.1 c.optional_bytes.ensures
    _ _ _ c.put-at.ensures.0 c.put-at.ensures.1 c.optional_bytes-2.ensures
    _ _ _ c.put-at-2.ensures.0 c.put-at-2.ensures.1 c.optional_bytes-3.ensures

pub returns : goal.returns
returns c =
    texts-put
    c.args.starts.now c.args.parts c.args.map.now c.args.ids.now _ c.requires
    _ _ _ c.put_ids-at.ensures.0 c.put_ids-at.ensures.1 c.optional_bytes.ensures
    _ _ _ c.put-at.ensures.0 c.put-at.ensures.1 c.optional_bytes-2.ensures
    _ _ _ c.put-at-2.ensures.0 c.put-at-2.ensures.1 c.optional_bytes-3.ensures
    _ c.put.ensures.1
