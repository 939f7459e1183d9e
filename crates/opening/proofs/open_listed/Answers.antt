use Rattle.opening.proofs.ReplyLaws.{replies, listed-done}
use Rattle.opening.proofs.open_listed.Goals as goal

pub returns-in_err-fields : goal.returns-in_err-fields
returns-in_err-fields c = search replies

pub overflow_add-tags : goal.overflow_add-tags
overflow_add-tags c = search replies

pub returns-then-not-long_enough : goal.returns-then-not-long_enough
returns-then-not-long_enough c = search replies

pub list_both-requires : goal.list_both-requires
list_both-requires c = search replies

pub returns : goal.returns
returns c =
    listed-done _ _ _ _ _ c.in_ok-fields.ensures _ c.long_enough.ensures _ _ (search replies) c.list_both.ensures
