use Rattle.std.proofs.Common.{sym, ◌∙◌}
use Rattle.swc_ecma_parser_token.specs.declared.kind.TokenKind.TheVariants as kind
use Rattle.swc_ecma_parser_control.proofs.ByKind.{gives_by_kind, gives_by_either, gives_other, gives_await}
use Rattle.swc_ecma_parser_control.proofs.stmt.level.Goals as goal

pub returns-in-LBrace : goal.returns-in-LBrace
returns-in-LBrace g c =
    gives_by_kind (g.G.Readers.depth c.args.g.now) c.args.at (g.P.Cursor.seen c.args.p.now) (rw c.levels.ensures at (sym c.begins_await_using.ensures) ∙ c.if-begins_await_using.false)
    g.T.Trees.stmt_of kind.LBrace (sym c.kind.ensures ∙ c.in-LBrace.is) _ _ c.block.ensures

pub returns-in-Function : goal.returns-in-Function
returns-in-Function g c =
    gives_by_kind (g.G.Readers.depth c.args.g.now) c.args.at (g.P.Cursor.seen c.args.p.now) (rw c.levels.ensures at (sym c.begins_await_using.ensures) ∙ c.if-begins_await_using.false)
    g.T.Trees.stmt_of kind.Function (sym c.kind.ensures ∙ c.in-Function.is) _ _ c.function_stmt.ensures

pub returns-in-Semi : goal.returns-in-Semi
returns-in-Semi g c =
    gives_by_kind (g.G.Readers.depth c.args.g.now) c.args.at (g.P.Cursor.seen c.args.p.now) (rw c.levels.ensures at (sym c.begins_await_using.ensures) ∙ c.if-begins_await_using.false)
    g.T.Trees.stmt_of kind.Semi (sym c.kind.ensures ∙ c.in-Semi.is) _ _ c.empty.ensures

pub returns-in-Debugger : goal.returns-in-Debugger
returns-in-Debugger g c =
    gives_by_kind (g.G.Readers.depth c.args.g.now) c.args.at (g.P.Cursor.seen c.args.p.now) (rw c.levels.ensures at (sym c.begins_await_using.ensures) ∙ c.if-begins_await_using.false)
    g.T.Trees.stmt_of kind.Debugger (sym c.kind.ensures ∙ c.in-Debugger.is) _ _ c.debugger.ensures

pub returns-in-Const : goal.returns-in-Const
returns-in-Const g c =
    gives_by_kind (g.G.Readers.depth c.args.g.now) c.args.at (g.P.Cursor.seen c.args.p.now) (rw c.levels.ensures at (sym c.begins_await_using.ensures) ∙ c.if-begins_await_using.false)
    g.T.Trees.stmt_of kind.Const (sym c.kind.ensures ∙ c.in-Const.is) _ _ c.const_stmt.ensures

pub returns-in-Let : goal.returns-in-Let
returns-in-Let g c =
    gives_by_kind (g.G.Readers.depth c.args.g.now) c.args.at (g.P.Cursor.seen c.args.p.now) (rw c.levels.ensures at (sym c.begins_await_using.ensures) ∙ c.if-begins_await_using.false)
    g.T.Trees.stmt_of kind.Let (sym c.kind.ensures ∙ c.in-Let.is) _ _ c.let_stmt.ensures

pub returns-in-If : goal.returns-in-If
returns-in-If g c =
    gives_by_kind (g.G.Readers.depth c.args.g.now) c.args.at (g.P.Cursor.seen c.args.p.now) (rw c.levels.ensures at (sym c.begins_await_using.ensures) ∙ c.if-begins_await_using.false)
    g.T.Trees.stmt_of kind.If (sym c.kind.ensures ∙ c.in-If.is) _ _ c.if_stmt.ensures

pub returns-in-Switch : goal.returns-in-Switch
returns-in-Switch g c =
    gives_by_kind (g.G.Readers.depth c.args.g.now) c.args.at (g.P.Cursor.seen c.args.p.now) (rw c.levels.ensures at (sym c.begins_await_using.ensures) ∙ c.if-begins_await_using.false)
    g.T.Trees.stmt_of kind.Switch (sym c.kind.ensures ∙ c.in-Switch.is) _ _ c.switch_stmt.ensures

pub returns-in-Break : goal.returns-in-Break
returns-in-Break g c =
    gives_by_kind (g.G.Readers.depth c.args.g.now) c.args.at (g.P.Cursor.seen c.args.p.now) (rw c.levels.ensures at (sym c.begins_await_using.ensures) ∙ c.if-begins_await_using.false)
    g.T.Trees.stmt_of kind.Break (sym c.kind.ensures ∙ c.in-Break.is) _ _ c.break_stmt.ensures

pub returns-in-Continue : goal.returns-in-Continue
returns-in-Continue g c =
    gives_by_kind (g.G.Readers.depth c.args.g.now) c.args.at (g.P.Cursor.seen c.args.p.now) (rw c.levels.ensures at (sym c.begins_await_using.ensures) ∙ c.if-begins_await_using.false)
    g.T.Trees.stmt_of kind.Continue (sym c.kind.ensures ∙ c.in-Continue.is) _ _ c.continue_stmt.ensures

pub returns-in-Return : goal.returns-in-Return
returns-in-Return g c =
    gives_by_kind (g.G.Readers.depth c.args.g.now) c.args.at (g.P.Cursor.seen c.args.p.now) (rw c.levels.ensures at (sym c.begins_await_using.ensures) ∙ c.if-begins_await_using.false)
    g.T.Trees.stmt_of kind.Return (sym c.kind.ensures ∙ c.in-Return.is) _ _ c.return_stmt.ensures

pub returns-in-Throw : goal.returns-in-Throw
returns-in-Throw g c =
    gives_by_kind (g.G.Readers.depth c.args.g.now) c.args.at (g.P.Cursor.seen c.args.p.now) (rw c.levels.ensures at (sym c.begins_await_using.ensures) ∙ c.if-begins_await_using.false)
    g.T.Trees.stmt_of kind.Throw (sym c.kind.ensures ∙ c.in-Throw.is) _ _ c.throw.ensures

pub returns-in-Try : goal.returns-in-Try
returns-in-Try g c =
    gives_by_kind (g.G.Readers.depth c.args.g.now) c.args.at (g.P.Cursor.seen c.args.p.now) (rw c.levels.ensures at (sym c.begins_await_using.ensures) ∙ c.if-begins_await_using.false)
    g.T.Trees.stmt_of kind.Try (sym c.kind.ensures ∙ c.in-Try.is) _ _ c.try_stmt.ensures

pub returns-in-With : goal.returns-in-With
returns-in-With g c =
    gives_by_kind (g.G.Readers.depth c.args.g.now) c.args.at (g.P.Cursor.seen c.args.p.now) (rw c.levels.ensures at (sym c.begins_await_using.ensures) ∙ c.if-begins_await_using.false)
    g.T.Trees.stmt_of kind.With (sym c.kind.ensures ∙ c.in-With.is) _ _ c.with_stmt.ensures

pub returns-in-While : goal.returns-in-While
returns-in-While g c =
    gives_by_kind (g.G.Readers.depth c.args.g.now) c.args.at (g.P.Cursor.seen c.args.p.now) (rw c.levels.ensures at (sym c.begins_await_using.ensures) ∙ c.if-begins_await_using.false)
    g.T.Trees.stmt_of kind.While (sym c.kind.ensures ∙ c.in-While.is) _ _ c.while_stmt.ensures

pub returns-in-Do : goal.returns-in-Do
returns-in-Do g c =
    gives_by_kind (g.G.Readers.depth c.args.g.now) c.args.at (g.P.Cursor.seen c.args.p.now) (rw c.levels.ensures at (sym c.begins_await_using.ensures) ∙ c.if-begins_await_using.false)
    g.T.Trees.stmt_of kind.Do (sym c.kind.ensures ∙ c.in-Do.is) _ _ c.do_while.ensures

pub returns-in-For : goal.returns-in-For
returns-in-For g c =
    gives_by_kind (g.G.Readers.depth c.args.g.now) c.args.at (g.P.Cursor.seen c.args.p.now) (rw c.levels.ensures at (sym c.begins_await_using.ensures) ∙ c.if-begins_await_using.false)
    g.T.Trees.stmt_of kind.For (sym c.kind.ensures ∙ c.in-For.is) _ _ c.for_stmt.ensures

pub returns-in-Ident : goal.returns-in-Ident
returns-in-Ident g c =
    gives_by_kind (g.G.Readers.depth c.args.g.now) c.args.at (g.P.Cursor.seen c.args.p.now) (rw c.levels.ensures at (sym c.begins_await_using.ensures) ∙ c.if-begins_await_using.false)
    g.T.Trees.stmt_of kind.Ident (sym c.kind.ensures ∙ c.in-Ident.is) _ _ c.async_or_other.ensures

pub returns-in-Catch : goal.returns-in-Catch
returns-in-Catch g c =
    gives_by_either (g.G.Readers.depth c.args.g.now) c.args.at (g.P.Cursor.seen c.args.p.now) (rw c.levels.ensures at (sym c.begins_await_using.ensures) ∙ c.if-begins_await_using.false)
    g.T.Trees.stmt_of _ kind.Catch kind.Finally (sym c.kind.ensures) c.in-Catch.is _ _ c.stray.ensures c.stray.ensures

pub returns-in-Import : goal.returns-in-Import
returns-in-Import g c =
    gives_by_either (g.G.Readers.depth c.args.g.now) c.args.at (g.P.Cursor.seen c.args.p.now) (rw c.levels.ensures at (sym c.begins_await_using.ensures) ∙ c.if-begins_await_using.false)
    g.T.Trees.stmt_of _ kind.Import kind.Export (sym c.kind.ensures) c.in-Import.is _ _ c.import_stmt_at.ensures c.import_stmt_at.ensures

pub returns-then-begins_await_using : goal.returns-then-begins_await_using
returns-then-begins_await_using g c =
    gives_await (g.G.Readers.depth c.args.g.now) c.args.at (g.P.Cursor.seen c.args.p.now) (rw c.levels.ensures at (sym c.begins_await_using.ensures) ∙ c.if-begins_await_using.true) g.T.Trees.stmt_of _ _ c.await_stmt.ensures

pub returns-in_default : goal.returns-in_default
returns-in_default g c =
    gives_other (g.G.Readers.depth c.args.g.now) c.args.at (g.P.Cursor.seen c.args.p.now) (rw c.levels.ensures at (sym c.begins_await_using.ensures) ∙ c.if-begins_await_using.false)
    g.T.Trees.stmt_of _ (sym c.kind.ensures) (record {
      block = c.in_default.not-LBrace;
      function = c.in_default.not-Function;
      semicolon = c.in_default.not-Semi;
      debugger = c.in_default.not-Debugger;
      constant = c.in_default.not-Const;
      let_word = c.in_default.not-Let;
      if_word = c.in_default.not-If;
      switch = c.in_default.not-Switch;
      break_word = c.in_default.not-Break;
      continue_word = c.in_default.not-Continue;
      return_word = c.in_default.not-Return;
      throw = c.in_default.not-Throw;
      try_word = c.in_default.not-Try;
      catch = c.in_default.not-Catch;
      finally = c.in_default.not-Finally;
      with_word = c.in_default.not-With;
      while_word = c.in_default.not-While;
      do_word = c.in_default.not-Do;
      for_word = c.in_default.not-For;
      import_word = c.in_default.not-Import;
      export_word = c.in_default.not-Export;
      name = c.in_default.not-Ident;
      class_word = λ e. c.requires.no_class (sym c.kind.ensures ∙ e);
      var_word = λ e. c.requires.no_var (sym c.kind.ensures ∙ e);
    }) _ _ c.other_stmt.ensures
