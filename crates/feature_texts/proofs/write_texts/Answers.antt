use Rattle.feature_texts.specs.FeatureTexts.{texts_in}
use Rattle.feature_texts.proofs.RoomLaws.{write_done}
use Rattle.feature_texts.proofs.write_texts.Goals as goal

pub returns-then-has_room : goal.returns-then-has_room
returns-then-has_room c =
    let texts = texts_in c.args.starts.now c.args.parts c.args.map.now c.args.ids.now in write_done texts c.args.buffer.now _ c.has_room.ensures _ c.if-has_room.true c.put_texts.ensures
