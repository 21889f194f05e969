-- Which files are wanted.
use Rattle.std.specs.Prelude.{◌==◌, ◌||◌, ℕ, Bool, true, List, codes, nat_eq, slice_index}
use Rattle.std.specs.List.{ends_with}
use Rattle.named_files.specs.Patterns.{matches, may_match_below}
use Rattle.named_files.specs.declared.wanted.Wanted.{Wanted}
use Rattle.named_files.specs.declared.wanted.Wanted.TheVariants as wanted

-- the file has GraphQL text, by the ending of its name
abbrev pub is_graphql : List ℕ → Bool
is_graphql path = ends_with nat_eq path (codes ".graphql")
    || (ends_with nat_eq path (codes ".graphqls") || ends_with nat_eq path (codes ".gql"))

-- the name is hidden: it begins with a dot
abbrev pub is_hidden : List ℕ → Bool
is_hidden name = slice_index name 0 == 46

-- the file of a path is wanted
abbrev pub takes : Wanted → List ℕ → Bool
takes wanted.Graphql path = is_graphql path
takes (wanted.Matching pattern) path = matches pattern.now path

-- the folder of a path is looked into
abbrev pub enters : Wanted → List ℕ → Bool
enters wanted.Graphql path = true
enters (wanted.Matching pattern) path = may_match_below pattern.now path
