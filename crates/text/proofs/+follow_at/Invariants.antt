use Rattle.text.proofs.+follow_at.Given as goal

abbrev pub decreases-follow_at : goal.decreases-follow_at
decreases-follow_at l = l.more
