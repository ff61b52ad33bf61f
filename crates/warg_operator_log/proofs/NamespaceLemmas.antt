-- What a map from names to namespaces says as a list.
use Rattle.std.proofs.Common.{◌≡◌, ℕ, List, [], ◌∷◌, ◌++◌, Bool, true, false, cond, ◌&&◌, Option, Some, None, refl, sym, ap, ◌∙◌, true≢false, is_some, not, IsTrue}
use Rattle.std.specs.Prelude.{string_bytes, is_none, IfSome}
use Rattle.std.specs.declared.string.String.{String}
use Rattle.std.specs.Option.{option_map, option_eq}
use Rattle.std.specs.Str.{bytes_eq}
use Rattle.std.specs.String.{string_eq}
use Rattle.std.specs.HashMap.{entries_eq}
use Rattle.std.specs.Map.{lookup, lookup_entry, keys_of, update, update_all}
use Rattle.indexmap.specs.IndexMap.{insert_entry, insert_all}
use Rattle.std.specs.List.{AllZip, list_all}
use Rattle.std.specs.Cmp.Lexicographic.{nat_list_eq_equiv}
use Rattle.std.proofs.lemmas.Slice.Eq.{bytes_eq-Decides}
use Rattle.warg_registry.specs.KebabNames.{is_kebab_name}
use Rattle.warg_operator_log.specs.Namespaces.{Namespace, Names, names, names_over}
use Rattle.warg_operator_log.specs.NamespaceMap.{namespace_view, namespace_entries, HasKebabNames}
use Rattle.warg_operator_log.specs.SameNamespaces.{same_namespace, same_namespaces}
use Rattle.warg_operator_log.specs.declared.namespace.NamespaceState.{NamespaceState}

cond_map : {A B : Type 0} (f : A → B) (b : Bool) (x : A) (o : Option A) → cond b (Some (f x)) (option_map f o) ≡ option_map f (cond b (Some x) o)
cond_map f true x o = refl
cond_map f false x o = refl

module _ {Z : Type 0} where
  -- a look-up by text finds what the list has at the bytes
  pub names-lookup : (k : List ℕ) (es : List (String Z × NamespaceState)) → names (namespace_entries es) k ≡ option_map namespace_view (lookup (λ n. bytes_eq k (string_bytes n)) es)
  names-lookup k [] = refl
  names-lookup k (e ∷ es) = ap (cond (bytes_eq k (string_bytes e.0)) (Some (namespace_view e.1))) (names-lookup k es) ∙ cond_map namespace_view (bytes_eq k (string_bytes e.0)) e.1 (lookup (λ n. bytes_eq k (string_bytes n)) es)

  pub named-push : (n : String Z) (s : NamespaceState) (es : List (String Z × NamespaceState)) → namespace_entries (es ++ (n, s) ∷ []) ≡ namespace_entries es ++ (string_bytes n, namespace_view s) ∷ []
  named-push n s [] = refl
  named-push n s (e ∷ es) = ap (λ l. (string_bytes e.0, namespace_view e.1) ∷ l) (named-push n s es)

  -- clones of namespaces under clones of their names
  pub named-cloned : (C : String Z → String Z → Type 0) → ((x y : String Z) → C x y → string_bytes y ≡ string_bytes x) → (es fs : List (String Z × NamespaceState)) → AllZip (λ p q. C p.0 q.0 × (namespace_view q.1 ≡ namespace_view p.1)) es fs → namespace_entries fs ≡ namespace_entries es
  named-cloned C clones [] [] h = refl
  named-cloned C clones [] (f ∷ fs) h = absurd h
  named-cloned C clones (e ∷ es) [] h = absurd h
  named-cloned C clones (e ∷ es) (f ∷ fs) h = λ i. (clones e.0 f.0 h.0.0 i, h.0.1 i) ∷ named-cloned C clones es fs h.1 i

  abbrev shown : String Z × NamespaceState → String Z × NamespaceState → Bool
  shown p q = same_namespace (namespace_view p.1) (namespace_view q.1)

  abbrev bytes_of : String Z × NamespaceState → List ℕ × Namespace
  bytes_of e = (string_bytes e.0, namespace_view e.1)

  found : (b : Bool) (e : String Z × NamespaceState) (o : Option (String Z × NamespaceState)) → cond b (Some (bytes_of e)) (option_map bytes_of o) ≡ option_map bytes_of (cond b (Some e) o)
  found true e o = refl
  found false e o = refl

  entry-named : (k : String Z) (es : List (String Z × NamespaceState)) → lookup_entry (bytes_eq (string_bytes k)) (namespace_entries es) ≡ option_map bytes_of (lookup_entry (string_eq k) es)
  entry-named k [] = refl
  entry-named k (e ∷ es) = ap (cond (bytes_eq (string_bytes k) (string_bytes e.0)) (Some (bytes_of e))) (entry-named k es) ∙ found (string_eq k e.0) e (lookup_entry (string_eq k) es)

  eq-shown : (p q : Option (String Z × NamespaceState)) → option_eq (λ (p q : List ℕ × Namespace). same_namespace p.1 q.1) (option_map bytes_of p) (option_map bytes_of q) ≡ option_eq shown p q
  eq-shown None None = refl
  eq-shown None (Some y) = refl
  eq-shown (Some x) None = refl
  eq-shown (Some x) (Some y) = refl

  all-named : (t : List ℕ → Bool) (es : List (String Z × NamespaceState)) → list_all (λ k. t (string_bytes k)) (keys_of es) ≡ list_all t (keys_of (namespace_entries es))
  all-named t [] = refl
  all-named t (e ∷ es) = ap (λ b. t (string_bytes e.0) && b) (all-named t es)

  -- `==` of maps is that of the lists that they show
  pub entries-same : (es fs : List (String Z × NamespaceState)) → entries_eq string_eq shown es fs ≡ same_namespaces (namespace_entries es) (namespace_entries fs)
  unfolding entries_eq
  entries-same es fs =
      let shows : List ℕ × Namespace → List ℕ × Namespace → Bool = λ p q. same_namespace p.1 q.1 in
      let test : List ℕ → Bool = λ k. option_eq shows (lookup_entry (bytes_eq k) (namespace_entries es)) (lookup_entry (bytes_eq k) (namespace_entries fs)) in
      let at : (k : String Z) → option_eq shown (lookup_entry (string_eq k) es) (lookup_entry (string_eq k) fs) ≡ test (string_bytes k)
      = λ k. sym (eq-shown (lookup_entry (string_eq k) es) (lookup_entry (string_eq k) fs)) ∙ (λ i. option_eq shows (sym (entry-named k es) i) (sym (entry-named k fs) i)) in
      (λ i. list_all (λ k. at k i) (keys_of es) && list_all (λ k. at k i) (keys_of fs)) ∙ (λ i. all-named test es i && all-named test fs i)

-- a name that is known is a kebab name
pub known-kebab : (k : List ℕ) (es : List (List ℕ × Namespace)) → HasKebabNames es → is_some (names es k) ≡ true → is_kebab_name k ≡ true
known-kebab k [] all h = absurd (true≢false (sym h))
known-kebab k (e ∷ es) all h = by (bytes_eq k e.0) refl h (known-kebab k es all.1)
  where
    by : (b : Bool) → bytes_eq k e.0 ≡ b → is_some (cond b (Some e.1) (names es k)) ≡ true → (is_some (names es k) ≡ true → is_kebab_name k ≡ true) → is_kebab_name k ≡ true
    by true is g rest = ap is_kebab_name ((bytes_eq-Decides k e.0).0 is) ∙ all.0
    by false is g rest = rest g

-- what holds of the name where a look-up finds something
pub on_found : {A B C : Type 0} (P : Type 0) (f : A → B) (g : B → C) (o : Option A) (known : Option C) → option_map g (option_map f o) ≡ known → (is_some known ≡ true → P) → IfSome o (λ _. P)
on_found P f g None known is holds = tt
on_found P f g (Some x) known is holds = holds (ap is_some (sym is))

-- what is known by name after changes, where f says what was known before
module _ (n : List ℕ) where
  over-none : (cs : List (List ℕ × Namespace)) (f : Names) → names cs n ≡ None → f n ≡ None → update_all bytes_eq f cs n ≡ None
  over-none [] f h none = none
  over-none (c ∷ cs) f h none = by (bytes_eq n c.0) refl h (over-none cs (update bytes_eq f c.0 (Some c.1)))
    where
      by : (b : Bool) → bytes_eq n c.0 ≡ b → cond b (Some c.1) (names cs n) ≡ None
          → (names cs n ≡ None → update bytes_eq f c.0 (Some c.1) n ≡ None → update_all bytes_eq (update bytes_eq f c.0 (Some c.1)) cs n ≡ None)
          → update_all bytes_eq (update bytes_eq f c.0 (Some c.1)) cs n ≡ None
      by true e g rest = cc
      by false e g rest = rest g (ap (λ b. cond b (Some c.1) (f n)) (nat_list_eq_equiv.symm c.0 n ∙ e) ∙ none)

  over-known : (cs : List (List ℕ × Namespace)) (f : Names) → is_some (f n) ≡ true → is_some (update_all bytes_eq f cs n) ≡ true
  over-known [] f h = h
  over-known (c ∷ cs) f h = over-known cs (update bytes_eq f c.0 (Some c.1)) (by (bytes_eq c.0 n))
    where
      by : (b : Bool) → is_some (cond b (Some c.1) (f n)) ≡ true
      by true = refl
      by false = h

  over-changed : (cs : List (List ℕ × Namespace)) (f : Names) → is_some (names cs n) ≡ true → is_some (update_all bytes_eq f cs n) ≡ true
  over-changed [] f h = absurd (true≢false (sym h))
  over-changed (c ∷ cs) f h = by (bytes_eq n c.0) refl h (over-changed cs (update bytes_eq f c.0 (Some c.1)))
    where
      by : (b : Bool) → bytes_eq n c.0 ≡ b → is_some (cond b (Some c.1) (names cs n)) ≡ true
          → (is_some (names cs n) ≡ true → is_some (update_all bytes_eq (update bytes_eq f c.0 (Some c.1)) cs n) ≡ true)
          → is_some (update_all bytes_eq (update bytes_eq f c.0 (Some c.1)) cs n) ≡ true
      by true e g rest = over-known cs (update bytes_eq f c.0 (Some c.1)) (ap (λ b. is_some (cond b (Some c.1) (f n))) (nat_list_eq_equiv.symm c.0 n ∙ e))
      by false e g rest = rest g

-- whether a name is known with the changes
module _ (n : List ℕ) (rs cs : List (List ℕ × Namespace)) where
  known : (o p : Option Namespace) → (is_some o ≡ true → is_some p ≡ true) → is_none o ≡ false → is_none p ≡ false
  known None p more h = absurd (true≢false h)
  known (Some x) None more h = absurd (true≢false (sym (more refl)))
  known (Some x) (Some y) more h = refl

  pub over-there : is_none (names rs n) ≡ false → is_none (names_over rs cs n) ≡ false
  over-there = known (names rs n) (names_over rs cs n) (over-known n cs (names rs))

  pub over-noted : is_none (names cs n) ≡ false → is_none (names_over rs cs n) ≡ false
  over-noted = known (names cs n) (names_over rs cs n) (over-changed n cs (names rs))

  none_of : (o : Option Namespace) → is_none o ≡ true → o ≡ None
  none_of None h = refl
  none_of (Some x) h = absurd (true≢false (sym h))

  pub over-missing : is_none (names rs n) ≡ true → is_none (names cs n) ≡ true → names_over rs cs n ≡ None
  over-missing h g = over-none n cs (names rs) (none_of (names cs n) g) (none_of (names rs n) h)

-- whether a name is known where a look-up finds something
pub known-as : {A B C : Type 0} (f : A → B) (g : B → C) (o : Option A) (x : Option C) → option_map g (option_map f o) ≡ x → is_none x ≡ not (is_some o)
known-as f g None x h = ap is_none (sym h)
known-as f g (Some y) x h = ap is_none (sym h)

-- whether an insertion is of a new name
pub new-name : {Z : Type 0} (n : String Z) (rs : List (List ℕ × Namespace)) (es : List (String Z × NamespaceState)) (b : Bool) → namespace_entries es ≡ rs → is_some (lookup (string_eq n) es) ≡ not b → b ≡ is_none (names rs (string_bytes n))
new-name n rs es b is h = by (lookup (λ k. bytes_eq (string_bytes n) (string_bytes k)) es) b h ∙ ap is_none (sym (names-lookup (string_bytes n) es)) ∙ ap (λ rs. is_none (names rs (string_bytes n))) is
  where
    by : (o : Option NamespaceState) (b : Bool) → is_some o ≡ not b → b ≡ is_none (option_map namespace_view o)
    by None true h = refl
    by None false h = absurd (true≢false (sym h))
    by (Some x) true h = absurd (true≢false h)
    by (Some x) false h = refl

pub nothing : {A : Type 0} (o : Option A) (b : Bool) → is_some o ≡ not b → IsTrue b → o ≡ None
nothing None b h t = refl
nothing (Some x) true h t = absurd (true≢false h)
nothing (Some x) false h t = absurd (true≢false (sym t))

-- an insertion into the map, as it is known by name
module _ {Z : Type 0} where
  names-insert : (n : String Z) (s : NamespaceState) (es : List (String Z × NamespaceState)) (k : List ℕ) → names (namespace_entries (insert_entry string_eq es n s)) k ≡ update bytes_eq (names (namespace_entries es)) (string_bytes n) (Some (namespace_view s)) k
  names-insert n s [] k = ap (λ b. cond b (Some (namespace_view s)) None) (nat_list_eq_equiv.symm k (string_bytes n))
  names-insert n s (e ∷ es) k = by (string_eq n e.0) refl (names-insert n s es k)
    where
      by : (b : Bool) → string_eq n e.0 ≡ b → names (namespace_entries (insert_entry string_eq es n s)) k ≡ cond (bytes_eq (string_bytes n) k) (Some (namespace_view s)) (names (namespace_entries es) k)
          → names (namespace_entries (cond b ((e.0, s) ∷ es) (e ∷ insert_entry string_eq es n s))) k ≡ cond (bytes_eq (string_bytes n) k) (Some (namespace_view s)) (cond (bytes_eq k (string_bytes e.0)) (Some (namespace_view e.1)) (names (namespace_entries es) k))
      by true is rest = here (bytes_eq k (string_bytes e.0)) (nat_list_eq_equiv.congr (string_bytes n) (string_bytes e.0) k is ∙ nat_list_eq_equiv.symm (string_bytes e.0) k)
        where
          here : (b : Bool) → bytes_eq (string_bytes n) k ≡ b → cond b (Some (namespace_view s)) (names (namespace_entries es) k) ≡ cond (bytes_eq (string_bytes n) k) (Some (namespace_view s)) (cond b (Some (namespace_view e.1)) (names (namespace_entries es) k))
          here true g = ap (λ b. cond b (Some (namespace_view s)) (Some (namespace_view e.1))) (sym g)
          here false g = ap (λ b. cond b (Some (namespace_view s)) (names (namespace_entries es) k)) (sym g)
      by false is rest = past (bytes_eq k (string_bytes e.0)) refl
        where
          past : (b : Bool) → bytes_eq k (string_bytes e.0) ≡ b → cond b (Some (namespace_view e.1)) (names (namespace_entries (insert_entry string_eq es n s)) k) ≡ cond (bytes_eq (string_bytes n) k) (Some (namespace_view s)) (cond b (Some (namespace_view e.1)) (names (namespace_entries es) k))
          past false g = rest
          past true g = ap (λ b. cond b (Some (namespace_view s)) (Some (namespace_view e.1))) (sym (ap (bytes_eq (string_bytes n)) ((bytes_eq-Decides k (string_bytes e.0)).0 g) ∙ is))

  pub kebabs-insert : (n : String Z) (s : NamespaceState) (es : List (String Z × NamespaceState)) → HasKebabNames (namespace_entries es) → is_kebab_name (string_bytes n) ≡ true → HasKebabNames (namespace_entries (insert_entry string_eq es n s))
  kebabs-insert n s [] all is = (is, tt)
  kebabs-insert n s (e ∷ es) all is = by (string_eq n e.0) (kebabs-insert n s es all.1 is)
    where
      by : (b : Bool) → HasKebabNames (namespace_entries (insert_entry string_eq es n s)) → HasKebabNames (namespace_entries (cond b ((e.0, s) ∷ es) (e ∷ insert_entry string_eq es n s)))
      by true rest = (all.0, all.1)
      by false rest = (all.0, rest)

  -- and the insertions of all that another map has
  pub names-insert_all : (xs es : List (String Z × NamespaceState)) (k : List ℕ) → names (namespace_entries (insert_all string_eq es xs)) k ≡ names_over (namespace_entries es) (namespace_entries xs) k
  names-insert_all [] es k = refl
  names-insert_all (x ∷ xs) es k = names-insert_all xs (insert_entry string_eq es x.0 x.1) k ∙ (λ i. update_all bytes_eq (λ q. names-insert x.0 x.1 es q i) (namespace_entries xs) k)

  pub kebabs-insert_all : (xs es : List (String Z × NamespaceState)) → HasKebabNames (namespace_entries xs) → HasKebabNames (namespace_entries es) → HasKebabNames (namespace_entries (insert_all string_eq es xs))
  kebabs-insert_all [] es own all = all
  kebabs-insert_all (x ∷ xs) es own all = kebabs-insert_all xs (insert_entry string_eq es x.0 x.1) own.1 (kebabs-insert x.0 x.1 es all own.0)
