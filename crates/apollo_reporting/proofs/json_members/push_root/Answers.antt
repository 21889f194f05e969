-- The definition of a fragment has its name.
use Rattle.apollo_reporting.proofs.json_members.push_root.Goals as goal

pub returns-in-Fragment : goal.returns-in-Fragment
returns-in-Fragment c = rw (c.in-Fragment.is, ← c.as_str-in-Fragment.ensures)
    c.push_definition-in-Fragment.ensures
