use Rattle.format.specs.Header.{tables}
use Rattle.header.proofs.HeaderLaws as laws
use Rattle.header.proofs.read_tables.Goals as goal

pub returns-in_err-poi_tags : goal.returns-in_err-poi_tags
unfolding tables
returns-in_err-poi_tags c = search laws.tables

pub returns-in_err-way_tags : goal.returns-in_err-way_tags
unfolding tables
returns-in_err-way_tags c = search laws.tables

pub returns-in_err-count : goal.returns-in_err-count
unfolding tables
returns-in_err-count c = search laws.tables

pub returns-then-front-eq0 : goal.returns-then-front-eq0
unfolding tables
returns-then-front-eq0 c = search laws.tables

pub returns : goal.returns
unfolding tables
returns c = search laws.tables
