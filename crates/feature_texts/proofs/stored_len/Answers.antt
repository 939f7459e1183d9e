use Rattle.feature_texts.proofs.RoomLaws.{stored-all}
use Rattle.feature_texts.proofs.stored_len.Goals as goal

pub returns : goal.returns
returns c =
    stored-all c.args.starts.now c.args.parts c.args.map.now c.args.ids.now _ _ _ _ _ _ _
    c.stored_ids-len.ensures
    c.optional_bytes-name.ensures
    c.optional_bytes-house_number.ensures
    c.optional_bytes-reference.ensures
    c.saturating_add_usize-len.ensures
    c.saturating_add_usize-len-2.ensures
    c.saturating_add_usize.ensures
