-- A query text, with parameters, is understood in one way at most.
use Rattle.std.proofs.Common.{◌≡◌, ◌≢◌, ◌⊎◌, inl, inr, ℕ, List, length, Result, Err, refl, sym, ap, ◌∙◌}
use Rattle.span_value.specs.declared.refusal.Refusal.{Refusal}
use Rattle.span_value.specs.declared.refusal.Refusal.TheVariants as refusal
use Rattle.span_schema.specs.declared.table.Table.{Table}
use Rattle.span_lexer.specs.declared.lexer.ReadError.{ReadError}
use Rattle.span_grammar.specs.declared.judge.Goal.TheVariants as goal
use Rattle.span_grammar.specs.Judged.{IsRefused, lexemes_in}
use Rattle.span_grammar.specs.Rules.{most_openings}
use Rattle.span_primary.specs.declared.fault.SyntaxError.TheVariants as fault
use Rattle.span_primary.specs.Phrases.{Phrase}
use Rattle.span_syntax.proofs.Parsing.{wrong_all, deep_all, text_refused_all, one_value, value_not_refused, misread_refuses}
use Rattle.span_parser.specs.declared.tree.Query.{Query}
use Rattle.span_parser.specs.Queries.{statement}
use Rattle.span_parser.proofs.Querying.{statement_good}
use Rattle.span_query.specs.declared.query.Statement.{Statement}
use Rattle.span_params.specs.declared.params.Parameter.{Parameter}
use Rattle.span_binder.specs.Queries.{bound}
use Rattle.span_binder.specs.Understands.{Understands, IsBound, IsNotInGrammar}

-- an error with this refusal, at some place
abbrev error : Refusal → ReadError
error why = record { refusal = why; place = 0 }

not_memory : (v w : Refusal) → v ≢ refusal.OutOfMemory → (v ≡ w) ⊎ (v ≡ refusal.OutOfMemory) → v ≡ w
not_memory v w n (inl same) = same
not_memory v w n (inr memory) = absurd (n memory)

module _ (text : List ℕ) where
  abbrev phrase : Phrase Query
  phrase = statement text most_openings

  one_refusal : (v w : Refusal) → v ≢ refusal.OutOfMemory → w ≢ refusal.OutOfMemory → IsRefused goal.Statement text v → IsRefused goal.Statement text w → v ≡ w
  one_refusal refusal.TextTooLong w n m i j = not_memory refusal.TextTooLong w n (misread_refuses goal.Statement text (error refusal.TextTooLong) i w m j)
  one_refusal refusal.BadToken w n m i j = not_memory refusal.BadToken w n (misread_refuses goal.Statement text (error refusal.BadToken) i w m j)
  one_refusal refusal.Syntax w n m i j =
      let a = wrong_all goal.Statement phrase (statement_good text most_openings) (lexemes_in text i.0) i.2 in
      not_memory refusal.Syntax w n (text_refused_all goal.Statement phrase (statement_good text most_openings) text i.0 i.1 (Err (error refusal.Syntax)) (inr (fault.Syntax (length a.0), a.1, refl)) w m j)
  one_refusal refusal.TooDeep w n m i j =
      let a = deep_all goal.Statement phrase (statement_good text most_openings) (lexemes_in text i.0) i.2 in
      not_memory refusal.TooDeep w n (text_refused_all goal.Statement phrase (statement_good text most_openings) text i.0 i.1 (Err (error refusal.TooDeep)) (inr (fault.TooDeep (length a.0), a.1, refl)) w m j)
  one_refusal refusal.OutOfMemory w n m i j = absurd (n refl)
  one_refusal _ w n m i j = absurd i

  module _ (schema : List Table) (params : List Parameter) where
    pub one_meaning : (u v : Result Statement Refusal) → Understands schema text params u → Understands schema text params v → u ≡ v
    unfolding IsBound IsNotInGrammar
    one_meaning u v (inl a) (inl b) =
        let same : a.0 ≡ b.0 = one_value goal.Statement phrase (statement_good text most_openings) text a.1.items a.1.made a.0 b.0 a.1 b.1 in
        sym a.2 ∙ ap (bound schema params) same ∙ b.2
    one_meaning u v (inl a) (inr b) = absurd (value_not_refused goal.Statement phrase (statement_good text most_openings) text a.1.items a.1.made a.0 a.1 b.0 b.1 b.2)
    one_meaning u v (inr a) (inl b) = absurd (value_not_refused goal.Statement phrase (statement_good text most_openings) text b.1.items b.1.made b.0 b.1 a.0 a.1 a.2)
    one_meaning u v (inr a) (inr b) =
        a.3 ∙ ap (λ (why : Refusal). let o : Result Statement Refusal = Err why in o) (one_refusal a.0 b.0 a.1 b.1 a.2 b.2) ∙ sym b.3
