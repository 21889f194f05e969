-- Texts of descriptions: GraphQL specification of October 2021, sections 2.9.4 and 3.2.
use Rattle.std.proofs.Common.{◌≡◌, ℕ, Bool, true, false, List, option_map, Option, None, Some, refl, ap, ◌∙◌}
use Rattle.std.specs.Prelude.{if◌then◌else◌}
use Rattle.graphql_nodes.specs.Comparing.{bare_name}
use Rattle.graphql_nodes.specs.NameView.{NameView}
use Rattle.graphql_nodes.specs.declared.source.FileId.{FileId}
use Rattle.graphql_tokens.specs.BlockStringValues.{block_string_value}
use Rattle.graphql_tokens.specs.StringValues.{string_value}
use Rattle.graphql_tokens.specs.declared.token.TokenKind.TheVariants as t
use Rattle.graphql_grammar.specs.declared.kind.Kind.{Kind}
use Rattle.graphql_grammar.specs.declared.kind.Kind.TheVariants as k
use Rattle.graphql_grammar.specs.Kinds.{only}
use Rattle.graphql_grammar.specs.Pieces.{optional}
use Rattle.graphql_productions.specs.TypeSystem.{description, description_body, is_description}
use Rattle.graphql_productions.specs.TypeSystem.{description_of}
use Rattle.graphql_printing.specs.Descriptions.{block, description_text, is_block}
use Rattle.graphql_printing.specs.Layout.{line_end}
use Rattle.graphql_printing.specs.Strings.{quoted}
use Rattle.graphql_printing.specs.TypeSystem.{described}
use Rattle.graphql_printing.proofs.BlockLaws.{block_says_the_text, first_is_block}
use Rattle.graphql_printing.proofs.QuotedLaws.{quoted_says_the_text}
use Rattle.graphql_round_trip.specs.Printed.{Heads, IsToken, Prints, anything, ends_token}
use Rattle.graphql_round_trip.proofs.PieceTexts.{line_blank, before_blank, headed_text, mapped_text}
use Rattle.graphql_round_trip.proofs.PieceTexts.{none_text, one_text, word_text}
use Rattle.graphql_round_trip.proofs.TokenTexts.{quoted_is_token}
use Rattle.graphql_round_trip.proofs.HeadTexts.{begins_itself}
use Rattle.graphql_grammar.specs.declared.fault.FaultKind.TheVariants.{Expected}
use Rattle.graphql_grammar.specs.declared.fault.Item.TheVariants as i

-- a block string is a token
block_is_token : (indent : ℕ) (text : List ℕ) → is_block text ≡ true
    → IsToken t.BlockString (block indent text) ends_token
block_is_token indent text is = λ rest _. first_is_block indent text rest is

-- what a word that is a description says, by what the word is and its bytes
abbrev said : Kind × List ℕ → NameView
said w = record {
  text = (if only k.BlockString w.0 then block_string_value w.1 else string_value w.1);
  location = None;
}

-- a text that is kept as a name
abbrev says : List ℕ → NameView
says text = record { text = text; location = None }

-- a description, as a block string or a quoted one
pub description_prints : (file : FileId) (indent : ℕ) (text : NameView)
    → Prints (description file) bare_name (bare_name text) (description_text indent text.text) ends_token
unfolding description_body
description_prints file indent text = headed_text is_description (by (is_block text.text) refl)
  where
    by : (b : Bool) → is_block text.text ≡ b
        → Prints (description_body file) bare_name (bare_name text) (if b then block indent text.text else
        quoted text.text) ends_token
    by true is = mapped_text (description_of file) bare_name (bare_name text) (λ w same. ap said same
        ∙ ap says (block_says_the_text indent text.text is)) (word_text is_description
        (λ _. Expected i.Definition) t.BlockString (block_is_token indent text.text is) refl)
    by false is = mapped_text (description_of file) bare_name (bare_name text) (λ w same. ap said same
        ∙ ap says (quoted_says_the_text text.text)) (word_text is_description (λ _. Expected i.Definition)
        t.String (quoted_is_token text.text) refl)

-- a description begins with one
pub description_heads : (indent : ℕ) (text : List ℕ)
    → Heads is_description (description_text indent text) ends_token
description_heads indent text = by (is_block text) refl
  where
    by : (b : Bool) → is_block text ≡ b
        → Heads is_description (if b then block indent text else quoted text) ends_token
    by true is = begins_itself is_description t.BlockString (block indent text)
        (block_is_token indent text is) refl
    by false is = begins_itself is_description t.String (quoted text) (quoted_is_token text) refl

-- a description on lines of its own, or none
pub described_prints : (file : FileId) (indent : ℕ) (text : Option NameView)
    → Prints (optional (description file)) (option_map bare_name) (option_map bare_name text)
    (described indent text) anything
described_prints file indent None = none_text (description file) bare_name anything
described_prints file indent (Some text) = before_blank (line_end indent) (line_blank indent)
    (one_text (description_prints file indent text)) (λ rest _. refl)
