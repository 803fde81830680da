-- What passes to a shared board see.
use Rattle.turn_pool.specs.declared.view.View.{View}
use Rattle.search_tree.specs.declared.event.Entry.{Entry}
use Rattle.search_tree.specs.Board.{Board}

abbrev pub BoardView : Type 0
BoardView = View Board Entry
