-- What reports say of faults besides their sentences.
use Rattle.std.specs.Prelude.{ℕ, List, Option, None, Some, option_map}
use Rattle.std.specs.Borrow.{Bor}
use Rattle.graphql_nodes.specs.declared.source.SourceSpan.{SourceSpan}
use Rattle.apollo_reporting.specs.declared.about.About.{About}
use Rattle.apollo_reporting.specs.declared.about.Earlier.{Earlier}
use Rattle.apollo_document.specs.declared.selection_path.SelectionPath.{SelectionPath}

-- what a report says of a fault besides its sentence
pub record AboutView : Type 0 where
  -- the name of what is wrong, as JSON has it
  pub kind : List ℕ
  -- an earlier place that has to do with it
  pub earlier : Option Earlier
  -- where the selection stands that it is about
  pub path : Option SelectionPath

-- what a value says
abbrev pub about_view : About → AboutView
about_view about =
    record {
      kind = about.kind;
      earlier = about.earlier;
      path = option_map (λ (path : Bor SelectionPath). path.now) about.path;
    }

-- the name alone
abbrev pub of_kind : List ℕ → AboutView
of_kind kind = record { kind = kind; earlier = None; path = None }

-- an earlier place, where it is known
abbrev pub earlier_at : List ℕ → Option SourceSpan → Option Earlier
earlier_at message location =
    option_map (λ (span : SourceSpan). record { message = message; location = span }) location

-- the name and an earlier place, where it is known
abbrev pub of_earlier : List ℕ → List ℕ → Option SourceSpan → AboutView
of_earlier kind message location = record { kind = kind; earlier = earlier_at message location; path = None }

-- the name and a path
abbrev pub of_path : List ℕ → SelectionPath → AboutView
of_path kind path = record { kind = kind; earlier = None; path = Some path }
