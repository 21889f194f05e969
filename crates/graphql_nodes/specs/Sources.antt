-- The source files of several documents: GraphQL specification of October 2021, section 2.
use Rattle.std.specs.Prelude.{Bool, List, nat_eq}
use Rattle.graphql_nodes.specs.Tables.{insert_all}
use Rattle.graphql_nodes.specs.declared.source.FileId.{FileId}
use Rattle.graphql_nodes.specs.declared.source.SourceFile.{SourceFile}

-- source files, each under its number
abbrev pub Files : Type 0
Files = List (FileId × SourceFile)

-- whether two numbers of files are one
abbrev pub same_file : FileId → FileId → Bool
same_file a b = nat_eq a.0 b.0

-- the files with more after them: a later file of a number replaces the earlier one
abbrev pub merged : Files → Files → Files
merged files more = insert_all same_file files more
