-- The text of a coordinate of valid names: it is in the grammar, and of no other coordinate.
use Rattle.std.proofs.Common.{◌≡◌, ◌++◌, ℕ, List, None, Result, Ok, Err, codes, refl, sym, subst, ◌∙◌, inl}
use Rattle.std.proofs.Common.{inr, append_assoc}
use Rattle.std.specs.List.{AllByRecursion}
use Rattle.graphql_nodes.specs.Comparing.{bare_name}
use Rattle.graphql_nodes.specs.NameSyntax.{IsName}
use Rattle.graphql_nodes.specs.NameView.{NameView}
use Rattle.graphql_nodes.proofs.Comparisons.{tail_same}
use Rattle.apollo_component.proofs.Lists.Each.{each-weaken}
use Rattle.apollo_coordinate.specs.CoordinateText.{IsAttributeText, IsFieldArgumentText, IsDirectiveText}
use Rattle.apollo_coordinate.specs.CoordinateText.{IsDirectiveArgumentText, IsCoordinateText, HasNames}
use Rattle.apollo_coordinate.specs.CoordinateText.{SaysCoordinate, coordinate_text, coordinate_parts}
use Rattle.apollo_coordinate.specs.CoordinateText.{bare_coordinate}
use Rattle.apollo_coordinate.specs.Refusals.{Lacks}
use Rattle.apollo_coordinate.specs.Readings.{IsReadingOf, IsReadBack}
use Rattle.apollo_coordinate.specs.declared.field_argument_coordinate.FieldArgumentCoordinate.{FieldArgumentCoordinate}
use Rattle.apollo_coordinate.specs.declared.directive_argument_coordinate.DirectiveArgumentCoordinate.{DirectiveArgumentCoordinate}
use Rattle.apollo_coordinate.specs.declared.schema_coordinate.SchemaCoordinate.{SchemaCoordinate}
use Rattle.apollo_coordinate.specs.declared.schema_coordinate.SchemaCoordinate.TheVariants.{Ty, TypeAttribute}
use Rattle.apollo_coordinate.specs.declared.schema_coordinate.SchemaCoordinate.TheVariants.{FieldArgument}
use Rattle.apollo_coordinate.specs.declared.schema_coordinate.SchemaCoordinate.TheVariants.{Directive}
use Rattle.apollo_coordinate.specs.declared.schema_coordinate.SchemaCoordinate.TheVariants.{DirectiveArgument}
use Rattle.apollo_coordinate.specs.declared.parse_error.SchemaCoordinateParseError.{SchemaCoordinateParseError}
use Rattle.apollo_coordinate.specs.declared.parse_error.SchemaCoordinateParseError.TheVariants.{InvalidFormat}
use Rattle.apollo_coordinate.specs.declared.parse_error.SchemaCoordinateParseError.TheVariants.{InvalidName}
use Rattle.apollo_coordinate.specs.declared.parse_error.SchemaCoordinateParseError.TheVariants.{Memory}
use Rattle.apollo_coordinate.proofs.MarkLemmas.{one_cut}
use Rattle.apollo_coordinate.proofs.GrammarLemmas.{BeginsAt, argument_begins, point, bracket, colon}
use Rattle.apollo_coordinate.proofs.GrammarLemmas.{name_lacks, type_begins, attribute_begins}
use Rattle.apollo_coordinate.proofs.GrammarLemmas.{field_argument_begins, attribute_lacks, directive_lacks}
use Rattle.apollo_coordinate.proofs.GrammarLemmas.{attribute_cut, argument_cut}

pub field_argument_form : (c : FieldArgumentCoordinate) → IsName c.ty.text → IsName c.field.text
    → IsName c.argument.text → IsFieldArgumentText (coordinate_text (FieldArgument c))
field_argument_form c ty field argument =
    let head : IsAttributeText (c.ty.text ++ (codes "." ++ c.field.text)) = (_, _, refl, ty, field) in
    (_, _, sym (append_assoc c.ty.text (codes "." ++ c.field.text) _), head, argument)

pub directive_argument_form : (c : DirectiveArgumentCoordinate) → IsName c.directive.text
    → IsName c.argument.text → IsDirectiveArgumentText (coordinate_text (DirectiveArgument c))
directive_argument_form c directive argument =
    (codes "@" ++ c.directive.text, c.argument.text, refl, (c.directive.text, refl, directive), argument)

-- the text in the grammar
pub in_grammar : (c : SchemaCoordinate) → HasNames c → IsCoordinateText (coordinate_text c)
in_grammar (Ty c) names = inl names.0
in_grammar (TypeAttribute c) names = inr (inl (c.ty.text, c.attribute.text, refl, names.0, names.1.0))
in_grammar (FieldArgument c) names = inr (inr (inl (field_argument_form c names.0 names.1.0 names.1.1.0)))
in_grammar (Directive c) names = inr (inr (inr (inl (c.directive.text, refl, names.0))))
in_grammar (DirectiveArgument c) names = inr (inr (inr (inr (directive_argument_form c names.0 names.1.0))))

-- the marks of the text
abbrev HasMarks : SchemaCoordinate → List ℕ → Type 0
HasMarks (Ty c) t = (BeginsAt t → ⊥) × Lacks 40 t × Lacks 46 t
HasMarks (TypeAttribute c) t = (BeginsAt t → ⊥) × Lacks 40 t × (Lacks 46 t → ⊥)
HasMarks (FieldArgument c) t = (BeginsAt t → ⊥) × (Lacks 40 t → ⊥) × Unit {0}
HasMarks (Directive c) t = BeginsAt t × Lacks 40 t × Unit {0}
HasMarks (DirectiveArgument c) t = BeginsAt t × (Lacks 40 t → ⊥) × Unit {0}

pub marks : (c : SchemaCoordinate) → HasNames c → HasMarks c (coordinate_text c)
marks (Ty c) names = (
  type_begins c.ty.text names.0,
  name_lacks 40 bracket c.ty.text names.0,
  name_lacks 46 point c.ty.text names.0,
)
marks (TypeAttribute c) names =
    let form : IsAttributeText (coordinate_text (TypeAttribute c)) = (_, _, refl, names.0, names.1.0) in
    (attribute_begins _ form, attribute_lacks _ form, attribute_cut _ form)
marks (FieldArgument c) names =
    let form = field_argument_form c names.0 names.1.0 names.1.1.0 in
    (field_argument_begins _ form, argument_cut IsAttributeText _ form, tt)
marks (Directive c) names =
    let form : IsDirectiveText (coordinate_text (Directive c)) = (c.directive.text, refl, names.0) in
    ((c.directive.text, refl), directive_lacks _ form, tt)
marks (DirectiveArgument c) names =
    let form = directive_argument_form c names.0 names.1.0 in
    (argument_begins _ form, argument_cut IsDirectiveText _ form, tt)

argument_same : (a b : List ℕ) → IsName a → IsName b → a ++ codes ":)" ≡ b ++ codes ":)" → a ≡ b
argument_same a b m n h =
    (one_cut 58 a (codes ")") b (codes ")") (name_lacks 58 colon a m) (name_lacks 58 colon b n) h).0

-- a text, with the marks that two coordinates have in it
same_form : (c d : SchemaCoordinate) → HasNames c → HasNames d → coordinate_text c ≡ coordinate_text d
    → HasMarks c (coordinate_text c) → HasMarks d (coordinate_text c) → bare_coordinate c ≡ bare_coordinate d
same_form (Ty c) (Ty d) m n h u v = rw h
same_form (TypeAttribute c) (TypeAttribute d) m n h u v =
    let cut = one_cut 46 _ _ _ _ (name_lacks 46 point c.ty.text m.0) (name_lacks 46 point d.ty.text n.0) h in
    rw (cut.0, cut.1)
same_form (FieldArgument c) (FieldArgument d) m n h u v =
    let cut = one_cut 46 _ _ _ _ (name_lacks 46 point c.ty.text m.0) (name_lacks 46 point d.ty.text n.0) h in
    let next = one_cut 40 c.field.text _ d.field.text _ (name_lacks 40 bracket c.field.text m.1.0)
    (name_lacks 40 bracket d.field.text n.1.0) cut.1 in
    rw (cut.0, next.0, argument_same c.argument.text d.argument.text m.1.1.0 n.1.1.0 next.1)
same_form (Directive c) (Directive d) m n h u v = rw (tail_same h)
same_form (DirectiveArgument c) (DirectiveArgument d) m n h u v =
    let cut = one_cut 40 c.directive.text _ d.directive.text _ (name_lacks 40 bracket c.directive.text m.0)
    (name_lacks 40 bracket d.directive.text n.0) (tail_same h) in
    rw (cut.0, argument_same c.argument.text d.argument.text m.1.0 n.1.0 cut.1)
same_form c d m n h u v = absurd (search (u.0, v.0, u.1, v.1, u.2, v.2))

pub apart : (c d : SchemaCoordinate) → HasNames c → HasNames d → coordinate_text c ≡ coordinate_text d
    → bare_coordinate c ≡ bare_coordinate d
apart c d m n h = same_form c d m n h (marks c m) (subst (HasMarks d) (sym h) (marks d n))

abbrev Stands : NameView → Type 0
Stands n = IsName n.text × (n.location ≡ None)

bare_stands : (n : NameView) → Stands n → bare_name n ≡ n
bare_stands n s = let e = s.1 in λ i. record { text = n.text; location = sym e i }

-- a coordinate that a text says has valid names, at no location
said_names : (d : SchemaCoordinate) → AllByRecursion Stands (coordinate_parts d) → HasNames d
said_names d s = each-weaken Stands (λ n. IsName n.text) (λ n h. h.0) (coordinate_parts d) s

said_bare : (d : SchemaCoordinate) → AllByRecursion Stands (coordinate_parts d) → bare_coordinate d ≡ d
said_bare (Ty d) s = rw (bare_stands d.ty s.0)
said_bare (TypeAttribute d) s = rw (bare_stands d.ty s.0, bare_stands d.attribute s.1.0)
said_bare (FieldArgument d) s =
    rw (bare_stands d.ty s.0, bare_stands d.field s.1.0, bare_stands d.argument s.1.1.0)
said_bare (Directive d) s = rw (bare_stands d.directive s.0)
said_bare (DirectiveArgument d) s = rw (bare_stands d.directive s.0, bare_stands d.argument s.1.0)

-- what says a coordinate is in the grammar
pub said_in_grammar : (t : List ℕ) (c : SchemaCoordinate) → SaysCoordinate t c → IsCoordinateText t
said_in_grammar t c said = subst IsCoordinateText said.0 (in_grammar c (said_names c said.1))

-- whatever reads the text of a coordinate of valid names answers it, or out of memory
pub reads : (c : SchemaCoordinate) (result : Result SchemaCoordinate SchemaCoordinateParseError) → HasNames c
    → IsReadingOf (coordinate_text c) result → IsReadBack c result
reads c (Ok d) names reading = sym (said_bare d reading.0.1) ∙ apart d c (said_names d reading.0.1) names
    reading.0.0
reads c (Err Memory) names reading = refl
reads c (Err InvalidFormat) names reading = absurd (reading.1.0 (in_grammar c names))
reads c (Err (InvalidName e)) names reading = absurd (reading.1.0 (in_grammar c names))
