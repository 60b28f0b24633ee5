-- What stands around a place of a text.
use Rattle.std.specs.Prelude.{ℕ, List, Bool}
use Rattle.ecma_situations.specs.declared.look.Look.{Look}

-- the texts around a place; each is empty where there is none
pub record Looked : Type 0 where
  pub earlier : List ℕ
  pub before : List ℕ
  pub found : List ℕ
  pub after : List ℕ
  pub opener : List ℕ
  pub head : List ℕ
  pub owner : List ℕ
  pub callee : List ℕ
  -- what was expected, the bytes that the fault belongs to, whether the text ends there, and whether the place is within a token
  pub wanted : List ℕ
  pub token : List ℕ
  pub is_end : Bool
  pub is_within : Bool

abbrev pub looked : Look → Looked
looked l = record {
  earlier = l.earlier.now;
  before = l.before.now;
  found = l.found.now;
  after = l.after.now;
  opener = l.opener.now;
  head = l.head.now;
  owner = l.owner.now;
  callee = l.callee.now;
  wanted = l.wanted.now;
  token = l.token.now;
  is_end = l.is_end;
  is_within = l.is_within;
}
