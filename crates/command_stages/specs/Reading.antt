-- The inputs of the commands: files, and the JSON texts in them.
use Rattle.std.specs.Prelude.{◌≡◌, ◌<◌, ◌≤◌, ℕ, List, [], ◌∷◌, ◌++◌, Option, Some, IfSome, IsSomeAnd, None, length, codes}
use Rattle.wot_json.specs.Json.{json_string}
use Rattle.wot_json.specs.Meaning.{json_of}
use Rattle.wot_json.specs.declared.tree.Tree.{Tree}
use Rattle.wot_json.specs.Reading.{value_of, tree_of, IsTooDeep, IsFirstWrong}
use Rattle.servient_outside.specs.declared.files.HeldFile.{HeldFile}
use Rattle.servient_outside.specs.declared.files.FileRead.{FileRead}
use Rattle.servient_outside.specs.Files.{content_of}
use Rattle.command_stages.specs.Lines.{file_line, input_line}
use Rattle.command_stages.specs.Stages.{Deed, did_read, did_fail, Outcome, goes_on, EndsWith, RunsOut}

-- ---- files

-- the longest description, plan or model, in bytes
abbrev pub longest_json : ℕ
longest_json = 1048576

-- a read of a file within a limit
abbrev pub file_read : ℕ → List ℕ → FileRead
file_read limit name = record { name = name; limit = limit }

-- the reads that may come before it was out of memory: none, or one that ended somehow
pub data IsRead (file : FileRead) (first : List Deed) : Type 0 where
  is_not_read : first ≡ [] → IsRead file first
  has_been_read : first ≡ did_read file ∷ [] → IsRead file first
  has_failed : first ≡ did_fail file ∷ [] → IsRead file first

-- Reading a file within a limit, where the files hold this, so far as that is recorded.
pub data ReadsFile (held : Option (List HeldFile)) (limit : ℕ) (name : List ℕ) (seen : List Deed) (o : Outcome (List ℕ)) : Type 0 where
  -- this is what it holds
  is_read : (content : List ℕ) → length content ≤ limit → IfSome held (λ files. content_of files name ≡ Some content)
      → seen ≡ did_read (file_read limit name) ∷ [] → o ≡ goes_on content → ReadsFile held limit name seen o
  -- there is no file of this name
  is_absent : IfSome held (λ files. content_of files name ≡ None)
      → EndsWith (did_read (file_read limit name) ∷ []) 3 (file_line name (codes "absent")) seen o → ReadsFile held limit name seen o
  -- reading it failed
  is_unreadable : EndsWith (did_fail (file_read limit name) ∷ []) 3 (file_line name (codes "failed")) seen o → ReadsFile held limit name seen o
  -- it is longer than the limit
  is_long : IfSome held (λ files. IsSomeAnd (content_of files name) (λ content. limit < length content))
      → EndsWith (did_read (file_read limit name) ∷ []) 4 (input_line name (codes "long")) seen o → ReadsFile held limit name seen o
  -- it, or the line, was out of memory
  file_memory : (first : List Deed) → IsRead (file_read limit name) first → RunsOut first seen o → ReadsFile held limit name seen o

-- ---- JSON texts

-- the cause for which bytes have no tree, as the line on a faulty file says it
pub data HasNoTree (content what : List ℕ) : Type 0 where
  -- they are no JSON text
  is_no_json : value_of content ≡ None → what ≡ codes "json" → HasNoTree content what
  -- it nests too deep
  is_too_deep : IsTooDeep content → what ≡ codes "deep" → HasNoTree content what
  -- a number in it isn't whole or needs more than 64 bits with sign, the first at this pointer
  is_wrong_number : (pointer : List ℕ) → IsFirstWrong content pointer → what ≡ codes "number " ++ json_string pointer → HasNoTree content what

-- Reading a JSON text.
pub data ReadsTree (name content : List ℕ) (seen : List Deed) (o : Outcome Tree) : Type 0 where
  is_tree : (tree : Tree) → tree_of content ≡ Some (json_of tree) → seen ≡ [] → o ≡ goes_on tree → ReadsTree name content seen o
  has_no_tree : (what : List ℕ) → tree_of content ≡ None → HasNoTree content what → EndsWith [] 4 (input_line name what) seen o → ReadsTree name content seen o
  tree_memory : RunsOut [] seen o → ReadsTree name content seen o
