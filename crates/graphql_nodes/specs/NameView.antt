-- Names as contracts see them: GraphQL specification of October 2021, section 2.1.9.
--
-- **What a contract sees.** A name is its text and its location. A node is its value and its location.
-- Lists, texts, tables and sets are lists. So "the two are the same" in a contract always includes
-- locations.
use Rattle.std.specs.Prelude.{ℕ, List, Option, None, refl}
use Rattle.std.specs.Coded.{Coded, code_by, coded×, coded_option, coded_list, coded_ℕ}
use Rattle.graphql_nodes.specs.declared.source.SourceSpan.{SourceSpan}
use Rattle.graphql_nodes.specs.NodeView.{span_code}

-- what a contract sees of a name: its bytes, and its location
pub record NameView : Type 0 where
  -- the bytes of the text
  pub text : List ℕ
  -- where the name stands, if it stands in a file
  pub location : Option SourceSpan

-- a name of this text without a location
abbrev pub plain_name : List ℕ → NameView
plain_name text = record { text = text; location = None }

-- codes of names: different names have different ones
abbrev pub name_view_code : Coded NameView
name_view_code =
    code_by (List ℕ
    × Option SourceSpan) (coded× (coded_list coded_ℕ) (coded_option span_code)) (λ n. (n.text, n.location))
    (λ p. record { text = p.0; location = p.1 }) (λ _. refl)
