-- The characters so far stand behind what stood there.
use Rattle.std.proofs.Common.{◌≡◌, ◌++◌, flat_map, string_bytes}
use Rattle.apollo_reporting.specs.GithubCommands.{escaped_char}
use Rattle.apollo_reporting.proofs.github.push_characters.Given as goal

abbrev pub invariant-loop-character : goal.invariant-loop-character
invariant-loop-character l = string_bytes l.text ≡ string_bytes l.fn.text
    ++ flat_map (escaped_char l.in_property) l.yielded
