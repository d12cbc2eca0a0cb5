use borrow.Author.Rules.{rules}
use Rattle.feed.specs.Feed.{is_ready}
use Rattle.definition.specs.Status.{◌and◌}
use Rattle.feed.proofs.is_ready.Goals as goal

pub returns-then-input-le-LIMIT : goal.returns-then-input-le-LIMIT
unfolding is_ready ◌and◌
returns-then-input-le-LIMIT c = search rules

pub returns-else-input-le-LIMIT : goal.returns-else-input-le-LIMIT
unfolding is_ready ◌and◌
returns-else-input-le-LIMIT c = search rules
