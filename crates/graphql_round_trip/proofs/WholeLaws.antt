-- The words of a whole text, where words that come first in it leave nothing.
use Rattle.std.proofs.Common.{◌≡◌, ◌≢◌, ◌-◌, ◌≤◌, ℕ, suc, true, List, [], ◌∷◌, ◌++◌, length, drop, None, Ok}
use Rattle.std.proofs.Common.{refl, sym, ap, ◌∙◌, append-nil, arith, Bool, subst, false, not, ◌&&◌, map}
use Rattle.std.proofs.lemmas.Bool.{and_parts}
use Rattle.std.specs.List.{list_all, flat_map}
use Rattle.graphql_tokens.specs.Bytes.{is_blank}
use Rattle.graphql_tokens.specs.First.{first_behind, first_of, First}
use Rattle.graphql_tokens.specs.Ignored.{ignored}
use Rattle.graphql_tokens.proofs.FirstLemmas.{shorter}
use Rattle.graphql_grammar.specs.Words.{WordView, begins}
use Rattle.graphql_grammar.specs.WordsOfText.{words_at, words_of, word_of}
use Rattle.graphql_grammar.proofs.WordLemmas.{next_left, none_left}
use Rattle.graphql_round_trip.specs.Printed.{Leads, Prints, Heads, anything, ends_token}
use Rattle.graphql_round_trip.proofs.LeadLaws.{one_blank, behind_blanks, leads_on}
use Rattle.graphql_grammar.specs.Pieces.{Piece}
use Rattle.graphql_round_trip.specs.ReadAgain.{SpellEqual}
use Rattle.std.proofs.Math.Bool.{and-false}
use Rattle.std.specs.Prelude.{codes}
use Rattle.graphql_nodes.specs.declared.operation_type.OperationType.{OperationType}
use Rattle.graphql_nodes.specs.declared.source.FileId.{FileId}
use Rattle.graphql_ast.specs.BareDocuments.{bare_definition}
use Rattle.graphql_ast.specs.Declarations.{Declaration, OfType, OfSchema, OfDirective, OfOperation}
use Rattle.graphql_ast.specs.Declarations.{OfFragment, declaration_of}
use Rattle.graphql_ast.specs.declared.definition.Definition.{Definition}
use Rattle.graphql_grammar.specs.declared.kind.Kind.{Kind}
use Rattle.graphql_grammar.specs.Kinds.{Kinds, only}
use Rattle.graphql_grammar.proofs.KindLemmas.{only_kind}
use Rattle.graphql_productions.specs.DefinitionTreeParts.{declaration_parts, definition_parts, document_parts}
use Rattle.graphql_productions.specs.Documents.{definition, spells_document, spells_in_turn, takes_braces}
use Rattle.graphql_productions.specs.Documents.{any_kind, selections, selections_pick}
use Rattle.graphql_productions.specs.WellFormed.{IsWellFormed}
use Rattle.graphql_printing.specs.Documents.{declaration_text, definition_text, definitions_behind}
use Rattle.graphql_printing.specs.Documents.{definitions_text}
use Rattle.graphql_round_trip.specs.Nesting.{definition_nesting, document_nesting, deepest, selection_nesting}
use Rattle.graphql_round_trip.specs.Nesting.{selections_nesting}
use Rattle.graphql_round_trip.proofs.BareDocumentTexts.{braces_say_no_location, one_text}
use Rattle.graphql_round_trip.proofs.HeadTexts.{is_none_of}
use Rattle.graphql_round_trip.proofs.TypeDefinitionTexts.{front_kinds, heads_wider, is_system}
use Rattle.graphql_round_trip.proofs.OperationTexts.{keyword_kind, opens_brace, selections_print}
use Rattle.graphql_round_trip.proofs.OperationTexts.{fragment_head, long_head, selections_head}
use Rattle.graphql_round_trip.proofs.DefinitionTexts.{definition_prints, directive_begins, schema_begins}
use Rattle.graphql_round_trip.proofs.DefinitionTexts.{type_begins}
use Rattle.graphql_round_trip.proofs.ListTexts.{part_of_front}
use Rattle.graphql_round_trip.proofs.PieceTexts.{same_first, branch_at}
use Rattle.graphql_nodes.specs.Comparing.{bare_node}
use Rattle.graphql_nodes.specs.NodeView.{NodeView}
use Rattle.graphql_ast.specs.Bare.{bare_type, bare_value}
use Rattle.graphql_ast.specs.declared.type_reference.Type.{«Type» as TypeReference}
use Rattle.graphql_ast.specs.declared.value.Value.{Value}
use Rattle.graphql_ast.specs.BareSelections.{bare_selection}
use Rattle.graphql_ast.specs.declared.selection.Selection.{Selection}
use Rattle.graphql_grammar.proofs.TextsOfWords.{each_has_its_text}
use Rattle.graphql_productions.specs.SelectionParts.{selection_parts}
use Rattle.graphql_productions.specs.Selections.{no_selection}
use Rattle.graphql_productions.specs.TreeParts.{wanted_parts}
use Rattle.graphql_productions.proofs.DocumentLaws.{documents_are_one, as_spelled}
use Rattle.graphql_productions.proofs.PartsOfDefinitions.{document_covers}
use Rattle.graphql_productions.proofs.PartsOfSelections.{selections_cover}
use Rattle.graphql_productions.proofs.PartsOfValues.{type_covers, value_node_covers}
use Rattle.graphql_productions.specs.Types.{type}
use Rattle.graphql_productions.specs.Values.{value_node}
use Rattle.graphql_printing.specs.Selections.{selections_text}
use Rattle.graphql_printing.specs.Texts.{type_text, value_text}
use Rattle.graphql_round_trip.proofs.Fits.{type_fits, value_fits, selections_fit}
use Rattle.graphql_round_trip.proofs.TypedTexts.{type_prints}
use Rattle.graphql_round_trip.proofs.ValueTexts.{value_node_prints}
use Rattle.graphql_nodes.specs.declared.operation_type.OperationType.TheVariants as o
use Rattle.graphql_grammar.specs.declared.kind.Kind.TheVariants as k
use Rattle.graphql_round_trip.proofs.FitDocuments.{spelled_document_fits}
use Rattle.graphql_productions.proofs.WellFormedLaws.{well_formed}

-- nothing comes first in blanks
blanks_ignored : (gap : List ℕ) → list_all is_blank gap ≡ true → ignored gap ≡ length gap
blanks_ignored [] blank = refl
blanks_ignored (c ∷ cs) blank = let b = and_parts _ _ blank in one_blank c cs b.0
    ∙ ap suc (blanks_ignored cs b.1)

nothing_behind : (text : List ℕ) → drop (length text) text ≡ []
nothing_behind [] = refl
nothing_behind (c ∷ cs) = nothing_behind cs

none_first : (text gap : List ℕ) → list_all is_blank gap ≡ true → text ≡ gap ++ [] → Ok None ≡ first_of text
none_first text gap blank same =
    let whole : text ≡ gap = same ∙ append-nil gap in
    let here : first_of gap ≡ Ok None = ap (λ (n : ℕ). first_behind n (drop n gap)) (blanks_ignored gap blank)
    ∙ ap (first_behind (length gap)) (nothing_behind gap) in
    sym (ap first_of whole ∙ here)

-- they are its words, where so many are allowed
pub words_lead : (allowed total : ℕ) (text : List ℕ) (words : List WordView) → Leads total text words []
    → length words ≤ allowed → words_at allowed total text ≡ words
words_lead allowed total text [] h few = none_left allowed total text (none_first text h.0 h.1 h.2)
words_lead allowed total text (w ∷ ws) h few =
    let some : allowed ≢ 0 = λ e. omega (arith, few, e) in
    next_left allowed total text h.0 some (sym h.1)
    ∙ cc (sym h.2, words_lead (allowed - 1) total h.0.rest ws h.3 (omega (arith, few)))

-- they are no more than the bytes of the text
pub words_in_bytes : (total : ℕ) (text : List ℕ) (words : List WordView) (rest : List ℕ)
    → Leads total text words rest → length words ≤ length text
words_in_bytes total text [] rest h = omega arith
words_in_bytes total text (w ∷ ws) rest h =
    let less = shorter text h.0 h.1 in
    let few = words_in_bytes total h.0.rest ws rest h.3 in
    omega (arith, less, few)

-- ---- what a text is read as is spelled by the words of the whole text

-- words that lead a text and leave nothing, and spell an equal tree
pub by_words : {A B : Type 0} (spells : A → List WordView → Type 0) (bare : A → B) (x tree : A)
    (text : List ℕ) (words : List WordView) (allowed : ℕ) → Leads (length text) text words []
    → spells tree words → bare tree ≡ bare x → length text ≤ allowed
    → SpellEqual spells bare x (words_of allowed text)
by_words spells bare x tree text words allowed leads spelled equal enough =
    let few = words_in_bytes _ text words [] leads in
    let all : words_of allowed text ≡ words =
    words_lead allowed _ text words leads (omega (arith, few, enough)) in
    record { tree = tree; spelled = subst (spells tree) (sym all) spelled; equal = equal }

-- a text that is read as what is seen as this, where nothing stands behind it
pub by_text : {A B : Type 0} {p : Piece A} {bare : A → B} {text : List ℕ} {ends : List ℕ → Bool} (x : A)
    (allowed : ℕ) → Prints p bare (bare x) text ends → ends [] ≡ true → length text ≤ allowed
    → SpellEqual p.spells bare x (words_of allowed text)
by_text {p} {bare} {text} x allowed t end enough =
    let r = t.read (length text) [] end in
    by_words p.spells bare x r.value text r.words allowed (subst (λ (all : List ℕ). Leads (length text) all
    r.words []) (append-nil text) r.leads) r.spelled r.same enough

-- ---- texts of documents: GraphQL specification of October 2021, section 2.2

-- ---- what is printed behind a definition that takes braces begins with no `{`

-- every kind but `{`
abbrev is_no_brace : Kinds
is_no_brace kind = not (only k.LeftBrace kind)

-- what begins with a word of this kind begins with no `{`
no_brace_of : {text : List ℕ} {ends : List ℕ → Bool} (kind : Kind) → is_no_brace kind ≡ true
    → Heads (only kind) text ends → Heads is_no_brace text ends
no_brace_of kind is head = heads_wider _ is_no_brace (λ other at. ap is_no_brace (only_kind kind other at)
    ∙ is) head

-- what may stand before anything may stand before these bytes
heads_loosely : {kinds : Kinds} {text : List ℕ} (ends : List ℕ → Bool) → Heads kinds text anything
    → Heads kinds text ends
heads_loosely ends head = record { solid = head.solid; first = λ total rest _. head.first total rest refl }

keyword_no_brace : (type : OperationType) → is_no_brace (keyword_kind type) ≡ true
keyword_no_brace o.Query = refl
keyword_no_brace type = refl

-- a description or a keyword is no `{`
system_no_brace : (kind : Kind) → is_system kind ≡ true → is_no_brace kind ≡ true
system_no_brace kind at = ap not (is_none_of is_system (only k.LeftBrace) refl kind at)

front_no_brace : (is_extension : Bool) {text : List ℕ} → Heads (front_kinds is_extension) text ends_token
    → Heads is_no_brace text ends_token
front_no_brace true head = no_brace_of k.Extend refl head
front_no_brace false head = heads_wider is_system is_no_brace system_no_brace head

-- what is printed there begins with none
declaration_heads : (x : Declaration) → IsWellFormed (declaration_parts x)
    → Heads is_no_brace (declaration_text true x) ends_token
declaration_heads (OfOperation n) well =
    heads_loosely ends_token (no_brace_of (keyword_kind n.value.operation_type)
    (keyword_no_brace n.value.operation_type) (long_head n.value well.1))
declaration_heads (OfFragment n) well =
    heads_loosely ends_token (no_brace_of k.Fragment refl (fragment_head n.value))
declaration_heads (OfDirective n) well = front_no_brace false (directive_begins true n)
declaration_heads (OfSchema s) well = front_no_brace s.is_extension (schema_begins true s)
declaration_heads (OfType t) well = front_no_brace t.is_extension (type_begins true t)

-- the first of the words that come first in a text is of a kind that the text begins with
first_kind : {kinds : Kinds} {text : List ℕ} {ends : List ℕ → Bool} (total : ℕ) (rest : List ℕ) (w : WordView)
    (ws : List WordView) → Heads kinds text ends → ends rest ≡ true → Leads total (text ++ rest) (w ∷ ws) rest
    → kinds w.kind ≡ true
first_kind {kinds} {text} total rest w ws head end leads =
    let h = head.first total rest end in
    let same : h.0 ≡ leads.0 = same_first h.0 leads.0 (text ++ rest) h.1 leads.1 in
    ap (λ (v : WordView). kinds v.kind) leads.2 ∙ ap (λ (f : First). kinds (word_of total f).kind) (sym same)
    ∙ h.2

-- ---- definitions one after the other

module _ (file : FileId) (depth total : ℕ) where
  -- a text is read as these definitions but for locations; its first word is no `{` where one before it would
  -- take that
  pub record ReadInTurn (before : Bool) (xs : List Definition) (text : List ℕ) : Type 0 where
    pub trees : List Definition
    pub words : List WordView
    pub same : map bare_definition trees ≡ map bare_definition xs
    pub leads : Leads total text words []
    pub spelled : spells_in_turn file depth trees words
    pub taken : (before && begins (only k.LeftBrace) words) ≡ false

  behind_ends : (braces : Bool) (xs : List Definition) → ends_token (definitions_behind braces xs) ≡ true
  behind_ends braces [] = refl
  behind_ends braces (x ∷ xs) = refl

  -- equal definitions take braces or not alike
  takes_alike : (x y : Definition) → bare_definition x ≡ bare_definition y → takes_braces x ≡ takes_braces y
  takes_alike x y same = sym (braces_say_no_location x) ∙ ap takes_braces same ∙ braces_say_no_location y

  -- the words of a definition behind one that takes braces begin with no `{`
  no_brace_taken : (braces : Bool) (x y : Definition) (words more : List WordView) (rest : List ℕ)
      → IsWellFormed (definition_parts x) → ends_token rest ≡ true → (definition file depth).spells y words
      → Leads total (definition_text braces x ++ rest) words rest
      → (braces && begins (only k.LeftBrace) (words ++ more)) ≡ false
  no_brace_taken false x y words more rest well end spelled leads = refl
  no_brace_taken true x y [] more rest well end spelled leads = absurd spelled
  no_brace_taken true x y (w ∷ ws) more rest well end spelled leads = by (only k.LeftBrace w.kind)
      (first_kind total rest w ws (declaration_heads (declaration_of x) well) end leads)
    where
      by : (b : Bool) → not b ≡ true → b ≡ false
      by false e = refl
      by true e = absurd cc

  -- a definition, and then others
  first_then : (braces : Bool) (x : Definition) (xs : List Definition) → IsWellFormed (definition_parts x)
      → definition_nesting x ≤ depth → ReadInTurn (takes_braces x) xs (definitions_behind (takes_braces x) xs)
      → ReadInTurn braces (x ∷ xs) (definition_text braces x ++ definitions_behind (takes_braces x) xs)
  first_then braces x xs well fits others =
      let rest : List ℕ = definitions_behind (takes_braces x) xs in
      let r = (definition_prints file depth braces x well fits).read total rest (behind_ends (takes_braces x)
      xs) in
      record {
        trees = r.value ∷ others.trees;
        words = r.words ++ others.words;
        same = cc (r.same, others.same);
        leads = leads_on total (definition_text braces x ++ rest) r.words rest others.words [] r.leads
            others.leads;
        spelled = record {
          head = r.words;
          tail = others.words;
          whole = refl;
          first = r.spelled;
          second = (
            others.spelled,
            ap (λ (b : Bool). b && begins (only k.LeftBrace) others.words)
                (takes_alike r.value x r.same) ∙ others.taken,
          );
        };
        taken = no_brace_taken braces x r.value r.words others.words rest well (behind_ends (takes_braces x)
            xs) r.spelled r.leads;
      }

  -- the same behind blanks
  blanks_then : (gap : List ℕ) {before : Bool} {xs : List Definition} {text : List ℕ}
      → list_all is_blank gap ≡ true → ReadInTurn before xs text → ReadInTurn before xs (gap ++ text)
  blanks_then gap {text} blank r = record {
    trees = r.trees;
    words = r.words;
    same = r.same;
    leads = behind_blanks total gap text r.words [] blank r.leads;
    spelled = r.spelled;
    taken = r.taken;
  }

  -- definitions, each behind an empty line
  behind_read : (braces : Bool) (xs : List Definition) → IsWellFormed (flat_map definition_parts xs)
      → document_nesting xs ≤ depth → ReadInTurn braces xs (definitions_behind braces xs)
  behind_read braces [] well fits = record {
    trees = [];
    words = [];
    same = refl;
    leads = ([], refl, refl);
    spelled = refl;
    taken = and-false braces;
  }
  behind_read braces (x ∷ xs) well fits =
      let both = part_of_front (definition_parts x) (flat_map definition_parts xs) well in
      blanks_then (codes "\n\n") refl (first_then braces x xs both.0 (omega arith)
      (behind_read (takes_braces x) xs both.1 (omega arith)))

  -- a document is read as it is printed
  pub document_reads : (xs : List Definition) → IsWellFormed (document_parts xs) → document_nesting xs ≤ depth
      → (ys : List Definition) × (words : List WordView) × (map bare_definition ys ≡ map bare_definition xs)
      × Leads total (definitions_text xs) words [] × spells_document file depth ys words
  document_reads [] well fits = absurd (let wanted = well.0 in cc)
  document_reads (x ∷ xs) well fits =
      let both = part_of_front (definition_parts x) (flat_map definition_parts xs) well.1 in
      let r = first_then false x xs both.0 (omega arith) (behind_read (takes_braces x) xs both.1
      (omega arith)) in
      (r.trees, r.words, r.same, r.leads, document_of r.trees r.words r.same r.spelled)
    where
      document_of : (ys : List Definition) (words : List WordView)
          → map bare_definition ys ≡ map bare_definition (x ∷ xs) → spells_in_turn file depth ys words
          → spells_document file depth ys words
      document_of [] words same spelled = absurd cc
      document_of (y ∷ ys) words same spelled = spelled

-- ---- whole texts: what is printed of a document, of selections, a type or a value is read again

-- a document
pub document_read_again : (file : FileId) (depth allowed : ℕ) (x : List Definition)
    → IsWellFormed (document_parts x) → document_nesting x ≤ depth → length (definitions_text x) ≤ allowed
    → SpellEqual (spells_document file depth) (map bare_definition) x (words_of allowed (definitions_text x))
document_read_again file depth allowed x formed fits enough =
    let r = document_reads file depth (length (definitions_text x)) x formed fits in
    by_words (spells_document file depth) (map bare_definition) x r.0 (definitions_text x) r.1 allowed r.3 r.4
    r.2 enough

-- what was read of a text, printed and read in any file
pub spelled_again : (file other : FileId) (depth allowed enough : ℕ) (text : List ℕ) (x : List Definition)
    → spells_document file depth x (words_of allowed text) → length (definitions_text x) ≤ enough
    → SpellEqual (spells_document other depth) (map bare_definition) x (words_of enough (definitions_text x))
spelled_again file other depth allowed enough text x spelled fits =
    let formed = document_covers (well_formed file) depth x (words_of allowed text)
    (each_has_its_text allowed text) (as_spelled file depth x (words_of allowed text) spelled) in
    document_read_again other depth enough x formed (spelled_document_fits file depth x
    (words_of allowed text) spelled) fits

-- whatever that is read as is printed as the same text
pub printed_once : (file other : FileId) (depth allowed enough : ℕ) (text : List ℕ) (x y : List Definition)
    → spells_document file depth x (words_of allowed text) → length (definitions_text x) ≤ enough
    → spells_document other depth y (words_of enough (definitions_text x))
    → definitions_text y ≡ definitions_text x
printed_once file other depth allowed enough text x y spelled fits again =
    let r = spelled_again file other depth allowed enough text x spelled fits in
    let same : r.tree ≡ y = documents_are_one other depth (words_of enough (definitions_text x)) r.tree y
    r.spelled again in
    one_text y x (ap (map bare_definition) (sym same) ∙ r.equal)

-- selections
pub selections_read_again : (file : FileId) (depth allowed : ℕ) (x : List Selection)
    → IsWellFormed (wanted_parts selection_parts x) → selections_nesting x ≤ depth
    → length (selections_text 0 x) ≤ allowed
    → SpellEqual (selections file depth).spells (map bare_selection) x
    (words_of allowed (selections_text 0 x))
selections_read_again file depth allowed x formed fits enough =
    by_text x allowed (branch_at {first = any_kind} {more = any_kind} (selections_pick file depth)
    no_selection k.LeftBrace (selections_head 0 x formed) (selections_print file depth 0 (codes "{") x
    opens_brace formed fits)) refl enough

-- in braces, selections nest one deeper
in_braces : (depth : ℕ) (x : List Selection) → deepest selection_nesting x ≤ depth
    → selections_nesting x ≤ suc depth
in_braces depth [] fits = omega arith
in_braces depth (x ∷ xs) fits = omega (arith, fits)

-- selections that were read, with braces or without
pub spelled_selections_again : (file other : FileId) (depth allowed enough : ℕ) (text : List ℕ)
    (x : List Selection) → (selections file depth).spells x (words_of allowed text)
    → length (selections_text 0 x) ≤ enough
    → SpellEqual (selections other (suc depth)).spells (map bare_selection) x
    (words_of enough (selections_text 0 x))
spelled_selections_again file other depth allowed enough text x spelled fits =
    let formed = selections_cover (well_formed file) depth x (words_of allowed text)
    (each_has_its_text allowed text) spelled in
    selections_read_again other (suc depth) enough x formed
    (in_braces depth x ((selections_fit file depth).kept x (words_of allowed text) spelled)) fits

-- a type that was read
pub spelled_type_again : (file other : FileId) (depth allowed enough : ℕ) (text : List ℕ) (x : TypeReference)
    → (type file depth).spells x (words_of allowed text) → length (type_text x) ≤ enough
    → SpellEqual (type other depth).spells bare_type x (words_of enough (type_text x))
spelled_type_again file other depth allowed enough text x spelled fits =
    let formed = type_covers (well_formed file) depth x (words_of allowed text)
    (each_has_its_text allowed text) spelled in
    by_text x enough (type_prints other depth x formed ((type_fits file depth).kept x (words_of allowed text)
    spelled)) refl fits

-- a value that was read
pub spelled_value_again : (file other : FileId) (constant : Bool) (depth allowed enough : ℕ) (text : List ℕ)
    (x : NodeView Value) → (value_node file constant depth).spells x (words_of allowed text)
    → length (value_text x.value) ≤ enough
    → SpellEqual (value_node other constant depth).spells (bare_node bare_value) x
    (words_of enough (value_text x.value))
spelled_value_again file other constant depth allowed enough text x spelled fits =
    let formed = value_node_covers (well_formed file) constant depth x (words_of allowed text)
    (each_has_its_text allowed text) spelled in
    by_text x enough (value_node_prints other constant depth x formed ((value_fits file constant depth).kept x
    (words_of allowed text) spelled)) refl fits
