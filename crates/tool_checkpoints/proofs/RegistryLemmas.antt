-- The leaves that lines say, and the log and the map that they make.
use Rattle.std.proofs.Common.{◌≡◌, ◌≢◌, ◌⊎◌, inl, inr, ℕ, false, true, List, [], ◌∷◌, ◌++◌, length, map, refl, sym, ap, subst, ◌∙◌, arith, append_assoc, append-nil, Option, Some, None}
use Rattle.std.specs.Prelude.{◌<◌, ◌==◌}
use Rattle.std.specs.List.{AllByRecursion, Contains, after_first, before_first, position_or_len}
use Rattle.std.specs.Str.{IsUtf8, is_utf8}
use Rattle.std.proofs.lemmas.Bool.{cond-false, cond-true, eqb-true, false_from_ne_true}
use Rattle.std.proofs.lemmas.List.{map-append}
use Rattle.std.proofs.lemmas.Str.{IsUtf8-from_is_utf8, is_utf8-from_IsUtf8}
use Rattle.sha2.specs.Sha256.{sha256}
use Rattle.warg_audit.specs.Files.Lines.{lines_of, without_return}
use Rattle.warg_listed_map.specs.ListedMaps.{IsMapOf}
use Rattle.warg_listed_map.specs.declared.entry.Entry.{Entry}
use Rattle.warg_merkle.specs.SparseMap.Maps.{way_down}
use Rattle.warg_merkle.specs.SparseTree.Nodes.{Sets}
use Rattle.warg_registry.specs.PrefixEncodings.{map_leaf_encoding_of}
use Rattle.warg_transparency.specs.MapTree.{way_of}
use Rattle.warg_merkle.specs.Trees.{Side, leaf_input}
use Rattle.warg_registry.specs.PrefixEncodings.{log_leaf_encoding_of}
use Rattle.warg_transparency.specs.Heads.{head_leaf}
use Rattle.warg_registry.specs.declared.leaf.LogLeaf.{LogLeaf}
use Rattle.warg_claims.specs.Verified.Lines.{has_no_space, is_space}
use Rattle.warg_audit.specs.Files.Answers.{IfOutput, IsUnusable}
use Rattle.tool_checkpoints.specs.RegistryLeaves.{AreTreesOf, HasHeads, HasNoLeaf, IsLast, SayLeaves, SayRegistry, entries_of, entry_of, leaf_of_ids, leaf_of_line, leaf_of_text}
use Rattle.warg_audit.specs.declared.files.command_error.CommandError.{CommandError}
use Rattle.tool_checkpoints.proofs.HeadLemmas.{empty_map, map_more, no_entry, placed_more, put_at, sets_put}
use Rattle.warg_audit.proofs.FilesLemmas.AnswerLemmas.{IfOutput-to}

-- ---- which leaf a line says

a_space : (text : List ℕ) → position_or_len is_space text < length text → has_no_space text ≡ false
a_space text h = grind arith

-- a text with a space
pub text_cut : (text log_id record_id : List ℕ) → log_id ≡ before_first is_space text → record_id ≡ after_first is_space text
    → position_or_len is_space text < length text → leaf_of_ids log_id record_id ≡ leaf_of_text text
text_cut text log_id record_id e f here =
    rw (e, f) (sym (cond-false (has_no_space text) None (leaf_of_ids (before_first is_space text) (after_first is_space text)) (a_space text here)))

-- a line that is a text
pub line_read : (line bytes text : List ℕ) → bytes ≡ without_return line → text ≡ bytes → IsUtf8 bytes → leaf_of_text text ≡ leaf_of_line line
line_read line bytes text e f is =
    ap leaf_of_text (f ∙ e)
    ∙ sym (cond-true (is_utf8 (without_return line)) (leaf_of_text (without_return line)) None (is_utf8-from_IsUtf8 (without_return line) (subst IsUtf8 e is)))

-- and one that is none
pub line_unread : (line bytes : List ℕ) → bytes ≡ without_return line → (IsUtf8 bytes → ⊥) → None ≡ leaf_of_line line
line_unread line bytes e never =
    sym (cond-false (is_utf8 (without_return line)) (leaf_of_text (without_return line)) None
    (false_from_ne_true (is_utf8 (without_return line)) (λ is. never (subst IsUtf8 (sym e) (IsUtf8-from_is_utf8 (without_return line) is)))))

-- ---- one leaf more

no_leaves : (before : List LogLeaf) (leaf : LogLeaf) (after : List LogLeaf) → [] ≡ before ++ leaf ∷ after → ⊥
no_leaves [] leaf after e = cc
no_leaves (first ∷ before) leaf after e = cc

-- a leaf among leaves with one more at their end: it is that one, or stands among the others
at_end_or_before : (leaves : List LogLeaf) (last : LogLeaf) (before : List LogLeaf) (leaf : LogLeaf) (after : List LogLeaf)
    → leaves ++ last ∷ [] ≡ before ++ leaf ∷ after
    → (last ≡ leaf) ⊎ ((between : List LogLeaf) × (after ≡ between ++ last ∷ []) × (leaves ≡ before ++ leaf ∷ between))
at_end_or_before [] last [] leaf after e = inl cc
at_end_or_before [] last (first ∷ before) leaf after e =
    let rest : [] ≡ before ++ leaf ∷ after = cc in absurd (no_leaves before leaf after rest)
at_end_or_before (first ∷ leaves) last [] leaf after e =
    let head : first ≡ leaf = cc in
    let tail : leaves ++ last ∷ [] ≡ after = cc in
    inr (leaves, sym tail, ap (λ (it : LogLeaf). it ∷ leaves) head)
at_end_or_before (first ∷ leaves) last (other ∷ before) leaf after e =
    let head : first ≡ other = cc in
    let tail : leaves ++ last ∷ [] ≡ before ++ leaf ∷ after = cc in
    elim (at_end_or_before leaves last before leaf after tail) [
      | inl same ↦ inl same
      | inr it ↦ inr (it.0, it.1, ap (λ (here : LogLeaf). here ∷ leaves) head ∙ ap (λ (rest : List LogLeaf). other ∷ rest) it.2)
    ]

all_parts : (P : LogLeaf → Type 0) (front back : List LogLeaf) → AllByRecursion P (front ++ back) → AllByRecursion P front × AllByRecursion P back
all_parts P [] back all = (tt, all)
all_parts P (leaf ∷ front) back all = let rest = all_parts P front back all.1 in ((all.0, rest.0), rest.1)

module _ (leaves : List LogLeaf) (leaf : LogLeaf) (old new : List Side → Option (List ℕ)) (heads : HasHeads leaves old)
    (sets : Sets old new (way_of leaf.log_id) (map_leaf_encoding_of (head_leaf leaf.record_id))) where
  last_more : (it : LogLeaf) → IsLast (leaves ++ leaf ∷ []) it → new (way_of it.log_id) ≡ Some (map_leaf_encoding_of (head_leaf it.record_id))
  last_more it is =
      let P : LogLeaf → Type 0 = λ later. way_of later.log_id ≢ way_of it.log_id in
      let Q : LogLeaf → Type 0 = λ last. new (way_of last.log_id) ≡ Some (map_leaf_encoding_of (head_leaf last.record_id)) in
      elim (at_end_or_before leaves leaf is.before it is.after is.parts) [
        | inl same ↦ subst Q same sets.changed
        | inr cut ↦
            let apart = all_parts P cut.0 (leaf ∷ []) (subst (λ (later : List LogLeaf). AllByRecursion P later) cut.1 is.no_later) in
            sets.others (way_of it.log_id) (λ same. apart.1.0 (sym same))
            ∙ heads.last it (record { before = is.before; after = cut.0; parts = cut.2; no_later = apart.0 })
      ]

  none_more : (way : List Side) → AllByRecursion (λ (it : LogLeaf). way_of it.log_id ≢ way) (leaves ++ leaf ∷ []) → new way ≡ None
  none_more way all =
      let P : LogLeaf → Type 0 = λ it. way_of it.log_id ≢ way in
      let apart = all_parts P leaves (leaf ∷ []) all in
      sets.others way (λ same. apart.1.0 (sym same)) ∙ heads.none way apart.0

  heads_more : HasHeads (leaves ++ leaf ∷ []) new
  heads_more = record { last = last_more; none = none_more }

-- the hash of a leaf of the log
abbrev hash_of : List ℕ → List ℕ
hash_of entry = sha256 (leaf_input entry)

hashes_more : (leaves : List LogLeaf) (leaf : LogLeaf) (old new : List (List ℕ)) → old ≡ map hash_of (entries_of leaves)
    → new ≡ old ++ hash_of (log_leaf_encoding_of leaf) ∷ [] → new ≡ map hash_of (entries_of (leaves ++ leaf ∷ []))
hashes_more leaves leaf old new so_far more =
    more ∙ ap (λ (hs : List (List ℕ)). hs ++ hash_of (log_leaf_encoding_of leaf) ∷ []) so_far
    ∙ sym (ap (map hash_of) (map-append log_leaf_encoding_of leaves (leaf ∷ []))
    ∙ map-append hash_of (entries_of leaves) (log_leaf_encoding_of leaf ∷ []))

-- of no leaves
pub no_trees : (hashes : List (List ℕ)) (entries : List Entry) → hashes ≡ [] → entries ≡ [] → AreTreesOf [] hashes entries
no_trees hashes entries e f = record {
  m = λ way. None;
  registry = record {
    log = e;
    heads = record { last = λ leaf is. absurd (no_leaves is.before leaf is.after is.parts); none = λ way all. refl };
  };
  map = subst (λ es. IsMapOf way_down es (λ way. None)) (sym f) empty_map;
  placed = λ x among. absurd (no_entry x (subst (λ es. Contains es x) f among));
}

-- with one leaf more
pub trees_more : (leaves : List LogLeaf) (leaf : LogLeaf) (old new : List (List ℕ)) (before after : List Entry)
    → new ≡ old ++ hash_of (log_leaf_encoding_of leaf) ∷ [] → after ≡ before ++ entry_of (length before) leaf ∷ []
    → AreTreesOf leaves old before → AreTreesOf (leaves ++ leaf ∷ []) new after
trees_more leaves leaf old new before after pushed added it =
    let e = entry_of (length before) leaf in
    let value = map_leaf_encoding_of (head_leaf leaf.record_id) in
    let n = put_at it.m (way_down e.key) value in
    let sets : Sets it.m n (way_of leaf.log_id) value = sets_put it.m (way_down e.key) value in
    record {
      m = n;
      registry = record {
        log = hashes_more leaves leaf old new it.registry.log pushed;
        heads = heads_more leaves leaf it.m n it.registry.heads sets;
      };
      map = subst (λ es. IsMapOf way_down es n) (sym added) (map_more before e it.m n value it.map it.placed refl sets refl);
      placed = subst (λ es. (x : Entry) → Contains es x → x.place < length es) (sym added) (placed_more before e it.m n value it.map it.placed refl sets refl);
    }

-- ---- the lines so far, and the lines that are left

pub record IsReadTo (lines rest hashes : List (List ℕ)) (entries : List Entry) : Type 0 where
  pub done : List (List ℕ)
  pub parts : lines ≡ done ++ rest
  pub so_far : SayRegistry done hashes entries

pub none_read : (lines hashes : List (List ℕ)) (entries : List Entry) → AreTreesOf [] hashes entries → IsReadTo lines lines hashes entries
none_read lines hashes entries empty =
    record { done = []; parts = refl; so_far = record { leaves = []; said = refl; trees = empty } }

said_more : (lines : List (List ℕ)) (leaves : List LogLeaf) (line : List ℕ) (leaf : LogLeaf) → SayLeaves lines leaves
    → Some leaf ≡ leaf_of_line line → SayLeaves (lines ++ line ∷ []) (leaves ++ leaf ∷ [])
said_more lines leaves line leaf said is =
    map-append leaf_of_line lines (line ∷ [])
    ∙ ap (λ (ls : List (Option LogLeaf)). ls ++ leaf_of_line line ∷ []) said
    ∙ ap (λ (last : Option LogLeaf). map Some leaves ++ last ∷ []) (sym is)
    ∙ sym (map-append Some leaves (leaf ∷ []))

pub one_read : (lines rest more : List (List ℕ)) (line : List ℕ) (leaf : LogLeaf) (old new : List (List ℕ)) (before after : List Entry)
    → rest ≡ line ∷ more → Some leaf ≡ leaf_of_line line
    → new ≡ old ++ sha256 (leaf_input (log_leaf_encoding_of leaf)) ∷ []
    → after ≡ before ++ entry_of (length before) leaf ∷ []
    → IsReadTo lines rest old before → IsReadTo lines more new after
one_read lines rest more line leaf old new before after cut is pushed added it =
    let leaves = it.so_far.leaves in
    record {
      done = it.done ++ line ∷ [];
      parts = it.parts ∙ ap (λ (ls : List (List ℕ)). it.done ++ ls) cut ∙ sym (append_assoc it.done (line ∷ []) more);
      so_far = record {
        leaves = leaves ++ leaf ∷ [];
        said = said_more it.done leaves line leaf it.so_far.said is;
        trees = trees_more leaves leaf old new before after pushed added it.so_far.trees;
      };
    }

no_lines : (text : List ℕ) → (length text == 0) ≡ true → lines_of text ≡ []
no_lines [] e = refl
no_lines (b ∷ rest) e = let none : length (b ∷ rest) ≡ 0 = eqb-true (length (b ∷ rest)) 0 e in absurd (omega arith)

pub all_read : (lines hashes : List (List ℕ)) (rest : List ℕ) (entries : List Entry) → (length rest == 0) ≡ true
    → IsReadTo lines (lines_of rest) hashes entries → SayRegistry lines hashes entries
all_read lines hashes rest entries end it =
    let all : lines ≡ it.done = it.parts ∙ ap (λ (ls : List (List ℕ)). it.done ++ ls) (no_lines rest end) ∙ append-nil it.done in
    subst (λ (ls : List (List ℕ)). SayRegistry ls hashes entries) (sym all) it.so_far

-- a line that says no leaf
pub unread_at : (lines rest more hashes : List (List ℕ)) (line : List ℕ) (entries : List Entry) (end : CommandError)
    → rest ≡ line ∷ more → None ≡ leaf_of_line line → IsReadTo lines rest hashes entries → IfOutput IsUnusable end
    → IfOutput (λ printed. HasNoLeaf lines × IsUnusable printed) end
unread_at lines rest more hashes line entries end cut bad it h =
    let none : HasNoLeaf lines = record {
      front = it.done;
      line = line;
      more = more;
      parts = it.parts ∙ ap (λ (ls : List (List ℕ)). it.done ++ ls) cut;
      bad = sym bad;
    } in
    IfOutput-to IsUnusable (λ printed. HasNoLeaf lines × IsUnusable printed) (λ printed is. (none, is)) end h
