use Rattle.std.proofs.Common.{◌≡◌, [], ◌∷◌, ◌++◌, sym, ap, ◌∙◌, subst, rules, string_bytes}
use Rattle.json.specs.Token.{key}
use Rattle.serde_json.specs.Data.{Data}
use Rattle.warg_crypto.specs.Json.JsonLaws.{ok_same}
use Rattle.warg_saved_states.specs.Texts.{AreMembers}
use Rattle.warg_saved_states.specs.Writes.{tokens_of}
use Rattle.warg_saved_states.proofs.TextLaws.{first_of}
use Rattle.warg_saved_states.proofs.MemberTokens.{member_behind, whole_text}
use Rattle.warg_saved_states.proofs.write_map.joined.Goals as goal

pub members-preserved : goal.members-preserved
members-preserved g c =
    let plain = g.V.SavedValue.plain in
    let writes = g.V.SavedValue.writes in
    let put = c.in_ok-write.ensures in
    record {
      before = put.2.0 ∙ search rules;
      tokens = λ all are.
          let i = c.members.invariant.tokens all are in
          let f = first_of plain writes (c.in-Some.name.now, c.in-Some.value.now) c.next.new.self i.0
          (subst (λ es. AreMembers plain writes es i.0) c.in-Some.ensures.steps i.1) in
          let name : c.key.new.self.tokens ≡ c.members.out.tokens ++ key (string_bytes c.in-Some.name.now) ∷ [] = search rules in
          let same : put.0 ≡ f.value = ok_same put.0 f.value (sym put.1 ∙ f.own) in
          let is : c.write.new.out.tokens ≡ (c.members.out.tokens ++ key (string_bytes c.in-Some.name.now) ∷ []) ++ tokens_of f.value =
          put.2.1 ∙ ap (λ t. t ++ tokens_of put.0) name
          ∙ ap (λ (d : Data). (c.members.out.tokens ++ key (string_bytes c.in-Some.name.now) ∷ []) ++ tokens_of d) same in (
            f.others,
            f.rest,
            member_behind c.members.out.tokens c.write.new.out.tokens (string_bytes c.in-Some.name.now) f.value f.others i.0 is f.are ∙ i.2,
          );
    }

pub returns-clause-ok : goal.returns-clause-ok
returns-clause-ok g c = λ all are.
    let i = c.members.invariant.tokens all are in
    let closed = c.in_ok-end_object.ensures in
    c.written.ensures
    ∙ whole_text g.V.SavedValue.plain g.V.SavedValue.writes c.members.name-iterator i.0 all c.members.out.tokens c.end_object.new.self.tokens
    c.in-None.ensures.steps.0 i.1 i.2 closed.ok
