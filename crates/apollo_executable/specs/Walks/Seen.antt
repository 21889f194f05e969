-- What a contract sees of the parts of a walk.
use Rattle.std.specs.Prelude.{Bool, ◌||◌, [], cond}
use Rattle.apollo_executable.specs.Walks.Left.{left_of, whole_walk, names_opened, opened_names}
use Rattle.apollo_executable.specs.Walks.Taken.{turns_taken}
use Rattle.apollo_executable.specs.Walks.WalkView.{WalkView}
use Rattle.apollo_executable.specs.declared.selection.SelectionSet.{SelectionSet}
use Rattle.apollo_executable.specs.declared.walks.open_lists.OpenLists.{OpenLists}
use Rattle.apollo_executable.specs.declared.walks.walk.Walk.{Walk}

-- a walk over this set with these lists open, where memory ran out or not
abbrev pub seen_of : SelectionSet → OpenLists → Bool → WalkView
seen_of start lists refused = record {
  deep = lists.deep;
  document = lists.document.now;
  start = start;
  coming = cond refused [] (left_of lists).fields;
  opened = opened_names lists.document.now (names_opened lists);
  ended = refused || lists.ended;
  taken = turns_taken (whole_walk lists.deep lists.document.now start) (left_of lists) refused;
}

-- what a contract sees of a walk
abbrev pub seen : Walk → WalkView
seen w = seen_of w.start.now w.lists w.refused
