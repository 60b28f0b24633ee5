mod BehindFront
