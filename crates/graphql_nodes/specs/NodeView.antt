-- Nodes of a syntax tree as contracts see them: GraphQL specification of October 2021, section 2.
use Rattle.std.specs.Prelude.{ℕ, Option, refl}
use Rattle.std.specs.Coded.{Coded, code_by, coded×, coded_option, coded_ℕ}
use Rattle.graphql_nodes.specs.declared.source.SourceSpan.{SourceSpan}

-- what a contract sees of a node: its value, and its location
pub record NodeView (T : Type 0) : Type 0 where
  pub value : T
  -- where the node stands, if it stands in a file
  pub location : Option SourceSpan

-- codes of spans of source files: different spans have different ones
abbrev pub span_code : Coded SourceSpan
span_code = code_by (ℕ
    × (ℕ × ℕ)) (coded× coded_ℕ (coded× coded_ℕ coded_ℕ)) (λ s. (s.file.0, (s.start, s.end))) (λ p.
    record { file = record { 0 = p.0 }; start = p.1.0; end = p.1.1 }) (λ _. refl)

-- codes of nodes, from codes of their values: different nodes have different ones
abbrev pub node_view_code : {T : Type 0} → Coded T → Coded (NodeView T)
node_view_code {T} c =
    code_by (T × Option SourceSpan) (coded× c (coded_option span_code)) (λ n. (n.value, n.location))
    (λ p. record { value = p.0; location = p.1 }) (λ _. refl)
